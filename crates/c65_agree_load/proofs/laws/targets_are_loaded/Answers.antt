use Rattle.c65_agree_load.proofs.Targets.{targets_are_loaded}
use Rattle.c65_agree_load.proofs.laws.targets_are_loaded.Goals as goal

pub returns : goal.returns
returns c = targets_are_loaded
