use Rattle.c65_agree_order.proofs.PointersHeld.{held_pointers_settle}
use Rattle.c65_agree_order.proofs.laws.held_pointers_settle.Goals as goal

pub returns : goal.returns
returns c = held_pointers_settle
