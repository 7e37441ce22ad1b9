use Rattle.c65_gen_law_stack.proofs.CallMoves.{calls_keep_heights}
use Rattle.c65_gen_law_stack.proofs.laws.calls_keep_heights.Goals as goal

pub returns : goal.returns
returns c = calls_keep_heights
