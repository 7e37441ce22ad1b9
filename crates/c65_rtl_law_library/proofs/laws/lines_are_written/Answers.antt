use Rattle.c65_rtl_law_library.proofs.Puts.{puts}
use Rattle.c65_rtl_law_library.proofs.laws.lines_are_written.Goals as goal

pub returns : goal.returns
returns c = puts
