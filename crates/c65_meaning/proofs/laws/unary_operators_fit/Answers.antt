use Rattle.c65_meaning.proofs.Fitting.{unary_operators_fit as the_law}
use Rattle.c65_meaning.proofs.laws.unary_operators_fit.Goals as goal

pub returns : goal.returns
returns c = the_law
