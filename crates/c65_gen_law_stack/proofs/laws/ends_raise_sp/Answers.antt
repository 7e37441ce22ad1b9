use Rattle.c65_gen_law_stack.proofs.CallWay.{ends_raise_sp}
use Rattle.c65_gen_law_stack.proofs.laws.ends_raise_sp.Goals as goal

pub returns : goal.returns
returns c = ends_raise_sp
