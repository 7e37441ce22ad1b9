use Rattle.c65_ppdir_law.proofs.Units.{units_are_one as the_law}
use Rattle.c65_ppdir_law.proofs.laws.units_are_one.Goals as goal

pub returns : goal.returns
returns c = the_law
