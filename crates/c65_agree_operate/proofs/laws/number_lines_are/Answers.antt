use Rattle.c65_agree_operate.proofs.Lines.{number_lines_are}
use Rattle.c65_agree_operate.proofs.laws.number_lines_are.Goals as goal

pub returns : goal.returns
returns c = number_lines_are
