use Rattle.c65_agree_access.proofs.ElementMembers.{members_are_elements}
use Rattle.c65_agree_access.proofs.element_laws.members_are_elements.Goals as goal

pub returns : goal.returns
returns c = members_are_elements
