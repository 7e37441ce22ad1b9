use Rattle.c65_rtl_law_printf_fields.proofs.Longs.{longs_are_taken}
use Rattle.c65_rtl_law_printf_fields.proofs.laws.longs_are_taken.Goals as goal

pub returns : goal.returns
returns c = longs_are_taken
