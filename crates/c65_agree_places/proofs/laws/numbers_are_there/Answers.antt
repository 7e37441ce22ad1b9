use Rattle.c65_agree_places.proofs.Held.{numbers_are_there}
use Rattle.c65_agree_places.proofs.laws.numbers_are_there.Goals as goal

pub returns : goal.returns
returns c = numbers_are_there
