use Rattle.c65_opt_law_near.proofs.Operations.{calm_stays}
use Rattle.c65_opt_law_near.proofs.laws.calm_stays.Goals as goal

pub returns : goal.returns
returns c = calm_stays
