use Rattle.c65_agree_pointers.proofs.Lines.{operator_lines_are}
use Rattle.c65_agree_pointers.proofs.laws.operator_lines_are.Goals as goal

pub returns : goal.returns
returns c = operator_lines_are
