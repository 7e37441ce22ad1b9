use Rattle.c65_agree_direct.proofs.Trees.{direct_trees_are_read}
use Rattle.c65_agree_direct.proofs.laws.direct_trees_are_read.Goals as goal

pub returns : goal.returns
returns c = direct_trees_are_read
