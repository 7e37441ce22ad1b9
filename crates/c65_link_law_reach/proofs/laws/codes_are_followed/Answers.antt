use Rattle.c65_link_law_reach.proofs.Reach.{codes_are_followed}
use Rattle.c65_link_law_reach.proofs.laws.codes_are_followed.Goals as goal

pub returns : goal.returns
returns c = codes_are_followed
