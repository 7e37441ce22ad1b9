use Rattle.c65_agree_structures.proofs.Loads.{areas_are_loaded}
use Rattle.c65_agree_structures.proofs.laws.areas_are_loaded.Goals as goal

pub returns : goal.returns
returns c = areas_are_loaded
