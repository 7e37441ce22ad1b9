use Rattle.c65_rtl_law_printf_fields.proofs.Choosing.{words_are_taken}
use Rattle.c65_rtl_law_printf_fields.proofs.laws.words_are_taken.Goals as goal

pub returns : goal.returns
returns c = words_are_taken
