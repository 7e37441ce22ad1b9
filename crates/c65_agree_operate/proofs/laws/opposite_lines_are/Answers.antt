use Rattle.c65_agree_operate.proofs.Lines.{opposite_lines_are}
use Rattle.c65_agree_operate.proofs.laws.opposite_lines_are.Goals as goal

pub returns : goal.returns
returns c = opposite_lines_are
