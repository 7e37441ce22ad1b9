use Rattle.c65_agree_put.proofs.Values.{values_are_laid}
use Rattle.c65_agree_put.proofs.laws.values_are_laid.Goals as goal

pub returns : goal.returns
returns c = values_are_laid
