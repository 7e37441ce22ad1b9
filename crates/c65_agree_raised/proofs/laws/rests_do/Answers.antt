use Rattle.c65_agree_raised.proofs.Rests.{rests_do}
use Rattle.c65_agree_raised.proofs.laws.rests_do.Goals as goal

pub returns : goal.returns
returns c = rests_do
