use Rattle.c65_agree_loading.proofs.Pointers.{targets_tell}
use Rattle.c65_agree_loading.proofs.base_laws.targets_tell.Goals as goal

pub returns : goal.returns
returns c = targets_tell
