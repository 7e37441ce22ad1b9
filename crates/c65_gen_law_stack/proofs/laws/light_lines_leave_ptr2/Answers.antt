use Rattle.c65_gen_law_stack.proofs.LightExprs.{light_lines_leave_ptr2}
use Rattle.c65_gen_law_stack.proofs.laws.light_lines_leave_ptr2.Goals as goal

pub returns : goal.returns
returns c = light_lines_leave_ptr2
