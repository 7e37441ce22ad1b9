use Rattle.c65_agree_numbers.proofs.Operators.{truth_is_of_words}
use Rattle.c65_agree_numbers.proofs.laws.truth_is_of_words.Goals as goal

pub returns : goal.returns
returns c = truth_is_of_words
