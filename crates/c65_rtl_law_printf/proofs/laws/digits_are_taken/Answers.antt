use Rattle.c65_rtl_law_printf.proofs.Digits.{digits_are_taken}
use Rattle.c65_rtl_law_printf.proofs.laws.digits_are_taken.Goals as goal

pub returns : goal.returns
returns c = digits_are_taken
