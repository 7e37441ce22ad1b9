use Rattle.c65_agree_compare.proofs.Lines.{comparison_lines_are}
use Rattle.c65_agree_compare.proofs.laws.comparison_lines_are.Goals as goal

pub returns : goal.returns
returns c = comparison_lines_are
