use Rattle.c65_agree_main.proofs.Mains.{mains_give_ints}
use Rattle.c65_agree_main.proofs.laws.mains_give_ints.Goals as goal

pub returns : goal.returns
returns c = mains_give_ints
