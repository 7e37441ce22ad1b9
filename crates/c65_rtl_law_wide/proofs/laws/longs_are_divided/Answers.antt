use Rattle.c65_rtl_law_wide.proofs.Unsigned.{tosudiveax, tosumodeax}
use Rattle.c65_rtl_law_wide.proofs.laws.longs_are_divided.Goals as goal

pub returns : goal.returns
returns c = (tosudiveax, tosumodeax)
