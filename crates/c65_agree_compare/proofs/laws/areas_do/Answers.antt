use Rattle.c65_agree_compare.proofs.Choices.{areas_do}
use Rattle.c65_agree_compare.proofs.laws.areas_do.Goals as goal

pub returns : goal.returns
returns c = areas_do
