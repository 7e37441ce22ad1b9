use Rattle.c65_agree_access.proofs.Targets.{targets_are_pointed}
use Rattle.c65_agree_access.proofs.pointed_laws.targets_are_pointed.Goals as goal

pub returns : goal.returns
returns c = targets_are_pointed
