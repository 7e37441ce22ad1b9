use Rattle.c65_rtl_law_runtime.proofs.All.{runtime_is_met}
use Rattle.c65_rtl_law_runtime.proofs.laws.the_runtime_is_met.Goals as goal

pub returns : goal.returns
returns c = runtime_is_met
