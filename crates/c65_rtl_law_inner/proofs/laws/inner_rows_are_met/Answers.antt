use Rattle.c65_rtl_law_inner.proofs.Moves.{raise_one_in, raise_four_in}
use Rattle.c65_rtl_law_inner.proofs.Loads.{pop_byte_in, load_word_in}
use Rattle.c65_rtl_law_inner.proofs.Pops.{pop_word_in}
use Rattle.c65_rtl_law_inner.proofs.Longs.{pop_long_in, negate_long_in}
use Rattle.c65_rtl_law_inner.proofs.laws.inner_rows_are_met.Goals as goal

pub returns : goal.returns
returns c = (raise_one_in, raise_four_in, pop_byte_in, pop_word_in, pop_long_in, load_word_in, negate_long_in)
