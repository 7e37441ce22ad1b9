use Rattle.c65_meaning.proofs.StoreLaws.{stores_stay as the_law}
use Rattle.c65_meaning.proofs.laws.stores_stay.Goals as goal

pub returns : goal.returns
returns c = the_law
