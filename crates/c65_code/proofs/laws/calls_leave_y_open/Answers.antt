use Rattle.c65_code.proofs.WeightLaws.{calls_leave_y_open}
use Rattle.c65_code.proofs.laws.calls_leave_y_open.Goals as goal

pub returns : goal.returns
returns c = calls_leave_y_open
