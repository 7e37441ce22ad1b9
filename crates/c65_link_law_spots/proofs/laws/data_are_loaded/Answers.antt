use Rattle.c65_link_law_spots.proofs.Loaded.{data_are_loaded}
use Rattle.c65_link_law_spots.proofs.laws.data_are_loaded.Goals as goal

pub returns : goal.returns
returns c = data_are_loaded
