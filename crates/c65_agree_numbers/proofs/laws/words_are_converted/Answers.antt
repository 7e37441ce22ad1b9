use Rattle.c65_agree_numbers.proofs.Ranges.{words_are_converted}
use Rattle.c65_agree_numbers.proofs.laws.words_are_converted.Goals as goal

pub returns : goal.returns
returns c = words_are_converted
