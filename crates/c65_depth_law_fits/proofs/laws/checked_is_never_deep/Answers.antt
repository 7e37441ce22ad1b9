use Rattle.c65_depth_law_fits.proofs.Runs.{checked_is_never_deep as the_law}
use Rattle.c65_depth_law_fits.proofs.laws.checked_is_never_deep.Goals as goal

pub returns : goal.returns
returns c = the_law
