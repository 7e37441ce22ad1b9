use Rattle.c65_agree_end.proofs.Main.{mains_return}
use Rattle.c65_agree_end.proofs.laws.mains_return.Goals as goal

pub returns : goal.returns
returns c = mains_return
