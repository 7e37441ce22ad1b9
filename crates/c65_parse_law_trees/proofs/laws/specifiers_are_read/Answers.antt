use Rattle.c65_parse_law_trees.proofs.Top.{specifiers_are_read}
use Rattle.c65_parse_law_trees.proofs.laws.specifiers_are_read.Goals as goal

pub returns : goal.returns
returns c = specifiers_are_read
