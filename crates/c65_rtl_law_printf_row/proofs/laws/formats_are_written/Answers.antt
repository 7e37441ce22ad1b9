use Rattle.c65_rtl_law_printf_row.proofs.Row.{formats_are_written}
use Rattle.c65_rtl_law_printf_row.proofs.laws.formats_are_written.Goals as goal

pub returns : goal.returns
returns c = formats_are_written
