use Rattle.c65_gen_law_stack.proofs.LineMoves.{functions_keep_heights}
use Rattle.c65_gen_law_stack.proofs.laws.functions_keep_heights.Goals as goal

pub returns : goal.returns
returns c = functions_keep_heights
