use Rattle.c65_depth_law_fits.proofs.Exactly.{fitting_is_checked as the_law}
use Rattle.c65_depth_law_fits.proofs.laws.fitting_is_checked.Goals as goal

pub returns : goal.returns
returns c = the_law
