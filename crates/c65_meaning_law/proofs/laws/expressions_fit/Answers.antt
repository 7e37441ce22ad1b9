use Rattle.c65_meaning_law.proofs.Expressions.{expressions_fit as the_law}
use Rattle.c65_meaning_law.proofs.laws.expressions_fit.Goals as goal

pub returns : goal.returns
returns c = the_law
