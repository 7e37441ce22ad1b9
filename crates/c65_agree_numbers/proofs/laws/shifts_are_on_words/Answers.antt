use Rattle.c65_agree_numbers.proofs.Shifts.{shifts_are_on_words}
use Rattle.c65_agree_numbers.proofs.laws.shifts_are_on_words.Goals as goal

pub returns : goal.returns
returns c = shifts_are_on_words
