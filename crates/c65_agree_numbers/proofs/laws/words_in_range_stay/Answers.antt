use Rattle.c65_agree_numbers.proofs.Ranges.{words_in_range_stay}
use Rattle.c65_agree_numbers.proofs.laws.words_in_range_stay.Goals as goal

pub returns : goal.returns
returns c = words_in_range_stay
