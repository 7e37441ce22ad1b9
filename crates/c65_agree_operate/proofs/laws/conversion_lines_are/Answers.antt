use Rattle.c65_agree_operate.proofs.Lines.{conversion_lines_are}
use Rattle.c65_agree_operate.proofs.laws.conversion_lines_are.Goals as goal

pub returns : goal.returns
returns c = conversion_lines_are
