use Rattle.c65_agree_compare.proofs.Lines.{comma_lines_are}
use Rattle.c65_agree_compare.proofs.laws.comma_lines_are.Goals as goal

pub returns : goal.returns
returns c = comma_lines_are
