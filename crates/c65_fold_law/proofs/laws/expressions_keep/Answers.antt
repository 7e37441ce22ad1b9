use Rattle.c65_fold_law.proofs.Expressions.{expressions_keep as the_law}
use Rattle.c65_fold_law.proofs.laws.expressions_keep.Goals as goal

pub returns : goal.returns
returns c = the_law
