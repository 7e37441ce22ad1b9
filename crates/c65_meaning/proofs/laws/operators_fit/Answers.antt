use Rattle.c65_meaning.proofs.Fitting.{operators_fit as the_law}
use Rattle.c65_meaning.proofs.laws.operators_fit.Goals as goal

pub returns : goal.returns
returns c = the_law
