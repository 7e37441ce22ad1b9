use Rattle.c65_driver_law_depth.proofs.Reported.{fitting_is_reported as the_law}
use Rattle.c65_driver_law_depth.proofs.laws.fitting_is_reported.Goals as goal

pub returns : goal.returns
returns c = the_law
