use Rattle.c65_meaning.proofs.ReadFitting.{reads_fit as the_law}
use Rattle.c65_meaning.proofs.laws.reads_fit.Goals as goal

pub returns : goal.returns
returns c = the_law
