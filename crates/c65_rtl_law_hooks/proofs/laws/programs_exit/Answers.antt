use Rattle.c65_rtl_law_hooks.proofs.Exit.{exit}
use Rattle.c65_rtl_law_hooks.proofs.laws.programs_exit.Goals as goal

pub returns : goal.returns
returns c = exit
