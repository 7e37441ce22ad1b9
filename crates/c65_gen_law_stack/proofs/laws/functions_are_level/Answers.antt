use Rattle.c65_gen_law_stack.proofs.FunctionLevels.{functions_are_level}
use Rattle.c65_gen_law_stack.proofs.laws.functions_are_level.Goals as goal

pub returns : goal.returns
returns c = functions_are_level
