use Rattle.c65_link_law_spots.proofs.Uses.{uses_are_chosen}
use Rattle.c65_link_law_spots.proofs.laws.uses_are_chosen.Goals as goal

pub returns : goal.returns
returns c = uses_are_chosen
