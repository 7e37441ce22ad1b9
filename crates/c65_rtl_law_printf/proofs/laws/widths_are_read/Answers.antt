use Rattle.c65_rtl_law_printf.proofs.Widths.{widths_are_read}
use Rattle.c65_rtl_law_printf.proofs.laws.widths_are_read.Goals as goal

pub returns : goal.returns
returns c = widths_are_read
