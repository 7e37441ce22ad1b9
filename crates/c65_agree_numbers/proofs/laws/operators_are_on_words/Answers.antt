use Rattle.c65_agree_numbers.proofs.Operators.{operators_are_on_words}
use Rattle.c65_agree_numbers.proofs.laws.operators_are_on_words.Goals as goal

pub returns : goal.returns
returns c = operators_are_on_words
