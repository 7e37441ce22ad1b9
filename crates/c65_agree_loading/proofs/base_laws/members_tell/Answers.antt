use Rattle.c65_agree_loading.proofs.Members.{members_tell}
use Rattle.c65_agree_loading.proofs.base_laws.members_tell.Goals as goal

pub returns : goal.returns
returns c = members_tell
