use Rattle.c65_agree_numbers.proofs.Operators.{opposites_are_on_words}
use Rattle.c65_agree_numbers.proofs.laws.opposites_are_on_words.Goals as goal

pub returns : goal.returns
returns c = opposites_are_on_words
