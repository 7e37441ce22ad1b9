use Rattle.c65_agree_addresses.proofs.Trees.{members_are_placed}
use Rattle.c65_agree_addresses.proofs.laws.members_are_placed.Goals as goal

pub returns : goal.returns
returns c = members_are_placed
