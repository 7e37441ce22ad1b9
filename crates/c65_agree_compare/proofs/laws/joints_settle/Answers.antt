use Rattle.c65_agree_compare.proofs.Joints.{joints_settle}
use Rattle.c65_agree_compare.proofs.laws.joints_settle.Goals as goal

pub returns : goal.returns
returns c = joints_settle
