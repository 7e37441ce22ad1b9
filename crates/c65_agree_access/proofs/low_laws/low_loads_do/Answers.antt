use Rattle.c65_agree_access.proofs.Lows.{low_loads_do}
use Rattle.c65_agree_access.proofs.low_laws.low_loads_do.Goals as goal

pub returns : goal.returns
returns c = low_loads_do
