use Rattle.c65_agree_access.proofs.Nodes.{stacked_assignments_do}
use Rattle.c65_agree_access.proofs.store_laws.stacked_assignments_do.Goals as goal

pub returns : goal.returns
returns c = stacked_assignments_do
