use Rattle.c65_rtl_law_inner.proofs.Pushes.{push_byte_in, push_word_in, push_zero_in}
use Rattle.c65_rtl_law_inner.proofs.laws.inner_pushes_are_met.Goals as goal

pub returns : goal.returns
returns c = (push_byte_in, push_word_in, push_zero_in)
