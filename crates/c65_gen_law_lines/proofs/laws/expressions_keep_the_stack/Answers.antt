use Rattle.c65_gen_law_lines.proofs.StackLaws.{expressions_keep_the_stack}
use Rattle.c65_gen_law_lines.proofs.laws.expressions_keep_the_stack.Goals as goal

pub returns : goal.returns
returns c = expressions_keep_the_stack
