use Rattle.c65_meaning.proofs.Fitting.{conversions_fit as the_law}
use Rattle.c65_meaning.proofs.laws.conversions_fit.Goals as goal

pub returns : goal.returns
returns c = the_law
