use Rattle.c65_depth_law.proofs.Settled.{settled_cover}
use Rattle.c65_depth_law.proofs.laws.settled_numbers_cover.Goals as goal

pub returns : goal.returns
returns c = λ g costs all long settled counted. settled_cover g costs all long settled counted
