use Rattle.c65_opt_law_follow.proofs.Compose.{following_composes}
use Rattle.c65_opt_law_follow.proofs.laws.following_composes.Goals as goal

pub returns : goal.returns
returns c = following_composes
