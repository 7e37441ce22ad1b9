use Rattle.c65_agree_part.proofs.Set.{clears_do}
use Rattle.c65_agree_part.proofs.laws.clears_do.Goals as goal

pub returns : goal.returns
returns c = clears_do
