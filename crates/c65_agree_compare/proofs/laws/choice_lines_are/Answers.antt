use Rattle.c65_agree_compare.proofs.Lines.{choice_lines_are}
use Rattle.c65_agree_compare.proofs.laws.choice_lines_are.Goals as goal

pub returns : goal.returns
returns c = choice_lines_are
