use Rattle.c65_agree_loading.proofs.Pointers.{pointers_tell}
use Rattle.c65_agree_loading.proofs.base_laws.pointers_tell.Goals as goal

pub returns : goal.returns
returns c = pointers_tell
