use Rattle.c65_agree_main.proofs.Mains.{mains_take_arguments}
use Rattle.c65_agree_main.proofs.laws.mains_take_arguments.Goals as goal

pub returns : goal.returns
returns c = mains_take_arguments
