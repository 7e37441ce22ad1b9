use Rattle.c65_meaning_law_free.proofs.Runs.{free_is_never_deep as the_law}
use Rattle.c65_meaning_law_free.proofs.laws.free_is_never_deep.Goals as goal

pub returns : goal.returns
returns c = the_law
