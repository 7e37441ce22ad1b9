use Rattle.c65_meaning_law.proofs.Library.{library_fits as the_law}
use Rattle.c65_meaning_law.proofs.laws.library_fits.Goals as goal

pub returns : goal.returns
returns c = the_law
