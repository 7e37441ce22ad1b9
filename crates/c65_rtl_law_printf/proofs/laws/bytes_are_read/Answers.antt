use Rattle.c65_rtl_law_printf.proofs.Format.{bytes_are_read}
use Rattle.c65_rtl_law_printf.proofs.laws.bytes_are_read.Goals as goal

pub returns : goal.returns
returns c = bytes_are_read
