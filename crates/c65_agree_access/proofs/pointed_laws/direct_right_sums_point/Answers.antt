use Rattle.c65_agree_access.proofs.Direct.{direct_right_sums_point}
use Rattle.c65_agree_access.proofs.pointed_laws.direct_right_sums_point.Goals as goal

pub returns : goal.returns
returns c = direct_right_sums_point
