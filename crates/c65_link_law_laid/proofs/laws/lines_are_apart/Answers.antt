use Rattle.c65_link_law_laid.proofs.Apart.{lines_are_apart}
use Rattle.c65_link_law_laid.proofs.laws.lines_are_apart.Goals as goal

pub returns : goal.returns
returns c = lines_are_apart
