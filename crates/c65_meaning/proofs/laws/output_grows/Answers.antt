use Rattle.c65_meaning.proofs.Growth.{output_grows as the_law}
use Rattle.c65_meaning.proofs.laws.output_grows.Goals as goal

pub returns : goal.returns
returns c = the_law
