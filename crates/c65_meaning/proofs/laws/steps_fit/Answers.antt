use Rattle.c65_meaning.proofs.Fitting.{steps_fit as the_law}
use Rattle.c65_meaning.proofs.laws.steps_fit.Goals as goal

pub returns : goal.returns
returns c = the_law
