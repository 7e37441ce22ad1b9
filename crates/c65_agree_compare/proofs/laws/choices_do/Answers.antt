use Rattle.c65_agree_compare.proofs.Choices.{choices_do}
use Rattle.c65_agree_compare.proofs.laws.choices_do.Goals as goal

pub returns : goal.returns
returns c = choices_do
