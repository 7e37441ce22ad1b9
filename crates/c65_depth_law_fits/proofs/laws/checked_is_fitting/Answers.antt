use Rattle.c65_depth_law_fits.proofs.Fitting.{checked_is_fitting as the_law}
use Rattle.c65_depth_law_fits.proofs.laws.checked_is_fitting.Goals as goal

pub returns : goal.returns
returns c = the_law
