use Rattle.c65_depth_law_ways.proofs.Ways.{cycles_lead_back as the_law}
use Rattle.c65_depth_law_ways.proofs.laws.cycles_lead_back.Goals as goal

pub returns : goal.returns
returns c = the_law
