use Rattle.c65_agree_access.proofs.HeldNodes.{held_assignments_do}
use Rattle.c65_agree_access.proofs.store_laws.held_assignments_do.Goals as goal

pub returns : goal.returns
returns c = held_assignments_do
