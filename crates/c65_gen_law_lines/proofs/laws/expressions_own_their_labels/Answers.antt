use Rattle.c65_gen_law_lines.proofs.ExprLaws.{expressions_own_their_labels}
use Rattle.c65_gen_law_lines.proofs.laws.expressions_own_their_labels.Goals as goal

pub returns : goal.returns
returns c = expressions_own_their_labels
