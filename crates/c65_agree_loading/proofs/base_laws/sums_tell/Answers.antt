use Rattle.c65_agree_loading.proofs.Sums.{sums_tell}
use Rattle.c65_agree_loading.proofs.base_laws.sums_tell.Goals as goal

pub returns : goal.returns
returns c = sums_tell
