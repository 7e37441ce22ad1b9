use Rattle.c65_agree_access.proofs.Targets.{pointers_are_pointed}
use Rattle.c65_agree_access.proofs.pointed_laws.pointers_are_pointed.Goals as goal

pub returns : goal.returns
returns c = pointers_are_pointed
