use Rattle.c65_gen_law_stack.proofs.BankStmts.{functions_leave_regbank}
use Rattle.c65_gen_law_stack.proofs.laws.functions_leave_regbank.Goals as goal

pub returns : goal.returns
returns c = functions_leave_regbank
