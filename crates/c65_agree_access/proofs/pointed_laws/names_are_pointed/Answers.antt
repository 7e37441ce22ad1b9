use Rattle.c65_agree_access.proofs.Targets.{names_are_pointed}
use Rattle.c65_agree_access.proofs.pointed_laws.names_are_pointed.Goals as goal

pub returns : goal.returns
returns c = names_are_pointed
