use Rattle.c65_live.proofs.Samples.{dead_is_not}
use Rattle.c65_live.proofs.laws.dead_is_not_live.Goals as goal

pub returns : goal.returns
returns c = dead_is_not
