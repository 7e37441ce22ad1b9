use Rattle.c65_parse_law_trees.proofs.Top.{declarators_are_read}
use Rattle.c65_parse_law_trees.proofs.laws.declarators_are_read.Goals as goal

pub returns : goal.returns
returns c = declarators_are_read
