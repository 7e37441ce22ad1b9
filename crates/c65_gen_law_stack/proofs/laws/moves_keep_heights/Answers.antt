use Rattle.c65_gen_law_stack.proofs.LineMoves.{moves_keep_heights}
use Rattle.c65_gen_law_stack.proofs.laws.moves_keep_heights.Goals as goal

pub returns : goal.returns
returns c = moves_keep_heights
