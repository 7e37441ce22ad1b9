use Rattle.c65_rtl_law_printf.proofs.Writing.{texts_are_written}
use Rattle.c65_rtl_law_printf.proofs.laws.texts_are_written.Goals as goal

pub returns : goal.returns
returns c = texts_are_written
