use Rattle.c65_link_law_runs.proofs.Moves.{moves_are_followed}
use Rattle.c65_link_law_runs.proofs.laws.moves_are_followed.Goals as goal

pub returns : goal.returns
returns c = moves_are_followed
