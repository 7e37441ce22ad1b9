use Rattle.c65_agree_access.proofs.Constants.{constant_sums_are_pointed}
use Rattle.c65_agree_access.proofs.pointed_laws.constant_sums_are_pointed.Goals as goal

pub returns : goal.returns
returns c = constant_sums_are_pointed
