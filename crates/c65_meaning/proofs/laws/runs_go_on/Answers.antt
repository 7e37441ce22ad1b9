use Rattle.c65_meaning.proofs.RunLaws.{runs_go_on as the_law}
use Rattle.c65_meaning.proofs.laws.runs_go_on.Goals as goal

pub returns : goal.returns
returns c = the_law
