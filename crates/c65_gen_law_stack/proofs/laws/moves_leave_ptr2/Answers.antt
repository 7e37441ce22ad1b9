use Rattle.c65_gen_law_stack.proofs.LightMoves.{moves_leave_ptr2}
use Rattle.c65_gen_law_stack.proofs.laws.moves_leave_ptr2.Goals as goal

pub returns : goal.returns
returns c = moves_leave_ptr2
