use Rattle.c65_agree_homes.proofs.Params.{parameters_have_homes}
use Rattle.c65_agree_homes.proofs.laws.parameters_have_homes.Goals as goal

pub returns : goal.returns
returns c = parameters_have_homes
