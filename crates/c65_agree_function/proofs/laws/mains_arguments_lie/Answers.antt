use Rattle.c65_agree_function.proofs.Mains.{mains_arguments_lie}
use Rattle.c65_agree_function.proofs.laws.mains_arguments_lie.Goals as goal

pub returns : goal.returns
returns c = mains_arguments_lie
