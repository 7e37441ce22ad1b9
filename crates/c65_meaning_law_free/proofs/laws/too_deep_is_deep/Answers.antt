use Rattle.c65_meaning_law_free.proofs.Runs.{too_deep_is_deep as the_law}
use Rattle.c65_meaning_law_free.proofs.laws.too_deep_is_deep.Goals as goal

pub returns : goal.returns
returns c = the_law
