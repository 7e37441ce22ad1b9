use Rattle.c65_link_law.proofs.Lines.{lines_are_coded}
use Rattle.c65_link_law.proofs.laws.lines_are_coded.Goals as goal

pub returns : goal.returns
returns c = lines_are_coded
