use Rattle.c65_rtl_law_printf_fields.proofs.Signs.{signs_are_taken}
use Rattle.c65_rtl_law_printf_fields.proofs.laws.signs_are_taken.Goals as goal

pub returns : goal.returns
returns c = signs_are_taken
