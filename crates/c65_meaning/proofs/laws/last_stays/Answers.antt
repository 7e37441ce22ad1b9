use Rattle.c65_meaning.proofs.RunLaws.{a_last_stays as the_law}
use Rattle.c65_meaning.proofs.laws.last_stays.Goals as goal

pub returns : goal.returns
returns c = the_law
