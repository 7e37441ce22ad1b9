use Rattle.c65_driver_law_depth.proofs.Reported.{no_reported_state_is_deep as the_law}
use Rattle.c65_driver_law_depth.proofs.laws.no_reported_state_is_deep.Goals as goal

pub returns : goal.returns
returns c = the_law
