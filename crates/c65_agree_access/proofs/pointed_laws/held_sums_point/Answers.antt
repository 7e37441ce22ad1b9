use Rattle.c65_agree_access.proofs.Direct.{held_sums_point}
use Rattle.c65_agree_access.proofs.pointed_laws.held_sums_point.Goals as goal

pub returns : goal.returns
returns c = held_sums_point
