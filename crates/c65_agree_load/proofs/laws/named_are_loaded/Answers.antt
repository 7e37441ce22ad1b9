use Rattle.c65_agree_load.proofs.Objects.{named_are_loaded}
use Rattle.c65_agree_load.proofs.laws.named_are_loaded.Goals as goal

pub returns : goal.returns
returns c = named_are_loaded
