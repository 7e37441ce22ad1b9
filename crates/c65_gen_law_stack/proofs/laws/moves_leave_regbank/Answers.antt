use Rattle.c65_gen_law_stack.proofs.BankMoves.{moves_leave_regbank}
use Rattle.c65_gen_law_stack.proofs.laws.moves_leave_regbank.Goals as goal

pub returns : goal.returns
returns c = moves_leave_regbank
