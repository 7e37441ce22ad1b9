use Rattle.c65_agree_direct.proofs.Trees.{direct_trees_are_read_on}
use Rattle.c65_agree_direct.proofs.laws.direct_trees_are_read_on.Goals as goal

pub returns : goal.returns
returns c = direct_trees_are_read_on
