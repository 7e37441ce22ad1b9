use Rattle.c65_gen_law_lines.proofs.ExprLaws.{expressions_are_fit}
use Rattle.c65_gen_law_lines.proofs.laws.expressions_are_fit.Goals as goal

pub returns : goal.returns
returns c = expressions_are_fit
