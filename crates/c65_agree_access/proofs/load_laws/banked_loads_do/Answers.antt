use Rattle.c65_agree_access.proofs.BankedLoads.{banked_loads_do}
use Rattle.c65_agree_access.proofs.load_laws.banked_loads_do.Goals as goal

pub returns : goal.returns
returns c = banked_loads_do
