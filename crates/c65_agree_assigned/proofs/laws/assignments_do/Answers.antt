use Rattle.c65_agree_assigned.proofs.Forms.{assignments_do}
use Rattle.c65_agree_assigned.proofs.laws.assignments_do.Goals as goal

pub returns : goal.returns
returns c = assignments_do
