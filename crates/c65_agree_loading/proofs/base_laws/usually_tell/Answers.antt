use Rattle.c65_agree_loading.proofs.Manners.{usually_tell}
use Rattle.c65_agree_loading.proofs.base_laws.usually_tell.Goals as goal

pub returns : goal.returns
returns c = usually_tell
