use Rattle.c65_parse_law_trees.proofs.Top.{exprs_are_read}
use Rattle.c65_parse_law_trees.proofs.laws.expressions_are_read.Goals as goal

pub returns : goal.returns
returns c = exprs_are_read
