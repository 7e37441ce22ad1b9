use Rattle.c65_agree_part.proofs.Begun.{values_are_begun}
use Rattle.c65_agree_part.proofs.laws.values_are_begun.Goals as goal

pub returns : goal.returns
returns c = values_are_begun
