use Rattle.c65_rtl_law_printf.proofs.Arguments.{strings_are_taken}
use Rattle.c65_rtl_law_printf.proofs.laws.strings_are_taken.Goals as goal

pub returns : goal.returns
returns c = strings_are_taken
