use Rattle.c65_agree_assign.proofs.Assigned.{assignments_are_followed}
use Rattle.c65_agree_assign.proofs.laws.assignments_are_followed.Goals as goal

pub returns : goal.returns
returns c = assignments_are_followed
