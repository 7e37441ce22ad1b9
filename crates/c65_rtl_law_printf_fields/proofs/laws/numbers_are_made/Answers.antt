use Rattle.c65_rtl_law_printf_fields.proofs.Numbers.{numbers_are_made}
use Rattle.c65_rtl_law_printf_fields.proofs.laws.numbers_are_made.Goals as goal

pub returns : goal.returns
returns c = numbers_are_made
