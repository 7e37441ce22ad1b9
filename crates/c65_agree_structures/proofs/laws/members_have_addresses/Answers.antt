use Rattle.c65_agree_structures.proofs.Members.{members_have_addresses}
use Rattle.c65_agree_structures.proofs.laws.members_have_addresses.Goals as goal

pub returns : goal.returns
returns c = members_have_addresses
