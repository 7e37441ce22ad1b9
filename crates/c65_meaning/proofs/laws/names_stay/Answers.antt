use Rattle.c65_meaning.proofs.Growth.{names_stay as the_law}
use Rattle.c65_meaning.proofs.laws.names_stay.Goals as goal

pub returns : goal.returns
returns c = the_law
