use Rattle.c65_agree_homes.proofs.Params.{last_parameters_arrive}
use Rattle.c65_agree_homes.proofs.laws.last_parameters_arrive.Goals as goal

pub returns : goal.returns
returns c = last_parameters_arrive
