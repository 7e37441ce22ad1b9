use Rattle.c65_agree_loading.proofs.Manners.{manners_tell}
use Rattle.c65_agree_loading.proofs.base_laws.manners_tell.Goals as goal

pub returns : goal.returns
returns c = manners_tell
