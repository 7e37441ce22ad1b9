use Rattle.c65_opt_law_stack.proofs.Rules.{in_line_followed}
use Rattle.c65_opt_law_stack.proofs.laws.operators_are_followed.Goals as goal

pub returns : goal.returns
returns c = in_line_followed
