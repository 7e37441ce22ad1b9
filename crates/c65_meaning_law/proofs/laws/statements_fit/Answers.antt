use Rattle.c65_meaning_law.proofs.StatementSteps.{statements_fit as the_law}
use Rattle.c65_meaning_law.proofs.laws.statements_fit.Goals as goal

pub returns : goal.returns
returns c = the_law
