use Rattle.c65_agree_choice.proofs.Numbers.{words_tell_numbers}
use Rattle.c65_agree_choice.proofs.laws.words_tell_numbers.Goals as goal

pub returns : goal.returns
returns c = words_tell_numbers
