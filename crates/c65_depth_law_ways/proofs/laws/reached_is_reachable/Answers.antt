use Rattle.c65_depth_law_ways.proofs.Ways.{reached_is_reachable as the_law}
use Rattle.c65_depth_law_ways.proofs.laws.reached_is_reachable.Goals as goal

pub returns : goal.returns
returns c = the_law
