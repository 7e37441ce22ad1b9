use Rattle.c65_agree_loading.proofs.Objects.{objects_tell}
use Rattle.c65_agree_loading.proofs.base_laws.objects_tell.Goals as goal

pub returns : goal.returns
returns c = objects_tell
