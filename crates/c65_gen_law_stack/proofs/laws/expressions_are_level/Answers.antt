use Rattle.c65_gen_law_stack.proofs.FunctionLevels.{expressions_are_level}
use Rattle.c65_gen_law_stack.proofs.laws.expressions_are_level.Goals as goal

pub returns : goal.returns
returns c = expressions_are_level
