use Rattle.c65_agree_loading.proofs.Pointers.{names_tell}
use Rattle.c65_agree_loading.proofs.base_laws.names_tell.Goals as goal

pub returns : goal.returns
returns c = names_tell
