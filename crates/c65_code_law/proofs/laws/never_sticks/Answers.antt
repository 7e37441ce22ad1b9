use Rattle.c65_code_law.proofs.Sticks.{never_sticks as the_law}
use Rattle.c65_code_law.proofs.laws.never_sticks.Goals as goal

pub returns : goal.returns
returns c = the_law
