use Rattle.c65_agree_access.proofs.Loads.{loads_do}
use Rattle.c65_agree_access.proofs.load_laws.loads_do.Goals as goal

pub returns : goal.returns
returns c = loads_do
