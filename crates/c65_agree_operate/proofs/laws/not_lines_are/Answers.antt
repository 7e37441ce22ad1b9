use Rattle.c65_agree_operate.proofs.Lines.{not_lines_are}
use Rattle.c65_agree_operate.proofs.laws.not_lines_are.Goals as goal

pub returns : goal.returns
returns c = not_lines_are
