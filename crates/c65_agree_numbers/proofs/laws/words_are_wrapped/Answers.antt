use Rattle.c65_agree_numbers.proofs.Ranges.{words_are_wrapped}
use Rattle.c65_agree_numbers.proofs.laws.words_are_wrapped.Goals as goal

pub returns : goal.returns
returns c = words_are_wrapped
