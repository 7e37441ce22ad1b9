use Rattle.c65_agree_access.proofs.Sums.{sums_are_pointed}
use Rattle.c65_agree_access.proofs.pointed_laws.sums_are_pointed.Goals as goal

pub returns : goal.returns
returns c = sums_are_pointed
