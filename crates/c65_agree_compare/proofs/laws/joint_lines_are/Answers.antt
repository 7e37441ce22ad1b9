use Rattle.c65_agree_compare.proofs.Lines.{joint_lines_are}
use Rattle.c65_agree_compare.proofs.laws.joint_lines_are.Goals as goal

pub returns : goal.returns
returns c = joint_lines_are
