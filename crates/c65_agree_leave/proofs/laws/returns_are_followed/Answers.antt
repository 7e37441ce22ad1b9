use Rattle.c65_agree_leave.proofs.Left.{returns_are_followed}
use Rattle.c65_agree_leave.proofs.laws.returns_are_followed.Goals as goal

pub returns : goal.returns
returns c = returns_are_followed
