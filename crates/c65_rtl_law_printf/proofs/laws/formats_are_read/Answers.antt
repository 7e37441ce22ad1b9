use Rattle.c65_rtl_law_printf.proofs.Reading.{formats_are_read}
use Rattle.c65_rtl_law_printf.proofs.laws.formats_are_read.Goals as goal

pub returns : goal.returns
returns c = formats_are_read
