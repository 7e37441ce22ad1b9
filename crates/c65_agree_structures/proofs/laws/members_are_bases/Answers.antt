use Rattle.c65_agree_structures.proofs.Members.{members_are_bases}
use Rattle.c65_agree_structures.proofs.laws.members_are_bases.Goals as goal

pub returns : goal.returns
returns c = members_are_bases
