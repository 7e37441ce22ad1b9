use Rattle.c65_agree_located.proofs.Places.{places_are_low}
use Rattle.c65_agree_located.proofs.laws.places_are_low.Goals as goal

pub returns : goal.returns
returns c = places_are_low
