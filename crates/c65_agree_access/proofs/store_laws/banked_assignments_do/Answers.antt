use Rattle.c65_agree_access.proofs.BankedStores.{banked_assignments_do}
use Rattle.c65_agree_access.proofs.store_laws.banked_assignments_do.Goals as goal

pub returns : goal.returns
returns c = banked_assignments_do
