use Rattle.c65_depth_law.proofs.Least.{rounds_least}
use Rattle.c65_depth_law.proofs.laws.rounds_are_least.Goals as goal

pub returns : goal.returns
returns c = λ g costs numbers covers k f. rounds_least g costs numbers covers k f
