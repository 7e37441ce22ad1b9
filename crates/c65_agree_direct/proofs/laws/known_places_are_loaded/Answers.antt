use Rattle.c65_agree_direct.proofs.Known.{known_places_are_loaded}
use Rattle.c65_agree_direct.proofs.laws.known_places_are_loaded.Goals as goal

pub returns : goal.returns
returns c = known_places_are_loaded
