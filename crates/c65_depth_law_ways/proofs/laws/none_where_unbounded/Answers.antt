use Rattle.c65_depth_law_ways.proofs.First.{none_where_unbounded as the_law}
use Rattle.c65_depth_law_ways.proofs.laws.none_where_unbounded.Goals as goal

pub returns : goal.returns
returns c = the_law
