use Rattle.c65_agree_order.proofs.Pointers.{pointers_settle}
use Rattle.c65_agree_order.proofs.laws.pointers_settle.Goals as goal

pub returns : goal.returns
returns c = pointers_settle
