use Rattle.c65_rtl_law_runtime.proofs.All.{routines_are_met}
use Rattle.c65_rtl_law_runtime.proofs.laws.routines_are_met.Goals as goal

pub returns : goal.returns
returns c = routines_are_met
