use Rattle.c65_agree_places.proofs.Spots.{parameters_are_raised}
use Rattle.c65_agree_places.proofs.laws.parameters_are_raised.Goals as goal

pub returns : goal.returns
returns c = parameters_are_raised
