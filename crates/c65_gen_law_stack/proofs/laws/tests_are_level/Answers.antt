use Rattle.c65_gen_law_stack.proofs.FunctionLevels.{tests_are_level}
use Rattle.c65_gen_law_stack.proofs.laws.tests_are_level.Goals as goal

pub returns : goal.returns
returns c = tests_are_level
