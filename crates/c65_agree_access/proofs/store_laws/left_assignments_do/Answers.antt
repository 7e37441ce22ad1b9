use Rattle.c65_agree_access.proofs.LeftNodes.{left_assignments_do}
use Rattle.c65_agree_access.proofs.store_laws.left_assignments_do.Goals as goal

pub returns : goal.returns
returns c = left_assignments_do
