use Rattle.c65_agree_assigned.proofs.RightNodes.{right_assignments_do}
use Rattle.c65_agree_assigned.proofs.laws.right_assignments_do.Goals as goal

pub returns : goal.returns
returns c = right_assignments_do
