use Rattle.c65_depth_law_ways.proofs.First.{unbounded_is_first as the_law}
use Rattle.c65_depth_law_ways.proofs.laws.unbounded_is_first.Goals as goal

pub returns : goal.returns
returns c = the_law
