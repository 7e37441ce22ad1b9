use Rattle.c65_gen_law_stack.proofs.CallWay.{entries_lower_sp}
use Rattle.c65_gen_law_stack.proofs.laws.entries_lower_sp.Goals as goal

pub returns : goal.returns
returns c = entries_lower_sp
