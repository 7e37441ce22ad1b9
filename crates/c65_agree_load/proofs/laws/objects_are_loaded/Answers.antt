use Rattle.c65_agree_load.proofs.Objects.{objects_are_loaded}
use Rattle.c65_agree_load.proofs.laws.objects_are_loaded.Goals as goal

pub returns : goal.returns
returns c = objects_are_loaded
