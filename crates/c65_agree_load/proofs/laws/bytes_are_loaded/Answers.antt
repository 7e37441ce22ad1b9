use Rattle.c65_agree_load.proofs.Loads.{bytes_are_loaded}
use Rattle.c65_agree_load.proofs.laws.bytes_are_loaded.Goals as goal

pub returns : goal.returns
returns c = bytes_are_loaded
