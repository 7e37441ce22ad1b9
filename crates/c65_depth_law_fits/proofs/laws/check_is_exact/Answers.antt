use Rattle.c65_depth_law_fits.proofs.Typed.{check_is_exact as the_law}
use Rattle.c65_depth_law_fits.proofs.laws.check_is_exact.Goals as goal

pub returns : goal.returns
returns c = the_law
