use Rattle.c65_gen_law_lines.proofs.StackStmts.{statements_keep_the_stack}
use Rattle.c65_gen_law_lines.proofs.laws.statements_keep_the_stack.Goals as goal

pub returns : goal.returns
returns c = statements_keep_the_stack
