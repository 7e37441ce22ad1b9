use Rattle.c65_agree_access.proofs.Members.{members_are_pointed}
use Rattle.c65_agree_access.proofs.pointed_laws.members_are_pointed.Goals as goal

pub returns : goal.returns
returns c = members_are_pointed
