use Rattle.c65_link_law_spots.proofs.Places.{places_are_placements}
use Rattle.c65_link_law_spots.proofs.laws.places_are_placements.Goals as goal

pub returns : goal.returns
returns c = places_are_placements
