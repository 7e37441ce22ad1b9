use Rattle.c65_parse_law_trees.proofs.Top.{types_are_read}
use Rattle.c65_parse_law_trees.proofs.laws.types_are_read.Goals as goal

pub returns : goal.returns
returns c = types_are_read
