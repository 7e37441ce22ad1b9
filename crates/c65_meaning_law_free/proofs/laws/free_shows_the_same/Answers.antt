use Rattle.c65_meaning_law_free.proofs.Runs.{free_shows_the_same as the_law}
use Rattle.c65_meaning_law_free.proofs.laws.free_shows_the_same.Goals as goal

pub returns : goal.returns
returns c = the_law
