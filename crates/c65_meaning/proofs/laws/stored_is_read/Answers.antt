use Rattle.c65_meaning.proofs.StoreLaws.{stored_is_read as the_law}
use Rattle.c65_meaning.proofs.laws.stored_is_read.Goals as goal

pub returns : goal.returns
returns c = the_law
