use Rattle.c65_agree_leave.proofs.Left.{calls_are_left}
use Rattle.c65_agree_leave.proofs.laws.calls_are_left.Goals as goal

pub returns : goal.returns
returns c = calls_are_left
