use Rattle.c65_agree_assigned.proofs.LeftPointers.{left_pointers_do}
use Rattle.c65_agree_assigned.proofs.laws.left_pointers_do.Goals as goal

pub returns : goal.returns
returns c = left_pointers_do
