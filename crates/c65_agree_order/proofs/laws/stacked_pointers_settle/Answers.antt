use Rattle.c65_agree_order.proofs.PointersStacked.{stacked_pointers_settle}
use Rattle.c65_agree_order.proofs.laws.stacked_pointers_settle.Goals as goal

pub returns : goal.returns
returns c = stacked_pointers_settle
