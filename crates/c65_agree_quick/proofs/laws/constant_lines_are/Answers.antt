use Rattle.c65_agree_quick.proofs.Lines.{constant_lines_are}
use Rattle.c65_agree_quick.proofs.laws.constant_lines_are.Goals as goal

pub returns : goal.returns
returns c = constant_lines_are
