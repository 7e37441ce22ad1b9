use Rattle.c65_meaning_law.proofs.Programs.{initial_store_fits as the_law}
use Rattle.c65_meaning_law.proofs.laws.initial_store_fits.Goals as goal

pub returns : goal.returns
returns c = the_law
