use Rattle.c65_rtl_law_stack.proofs.Check.{stkchk}
use Rattle.c65_rtl_law_stack.proofs.laws.stacks_are_checked.Goals as goal

pub returns : goal.returns
returns c = stkchk
