use Rattle.c65_agree_put.proofs.Puts.{waiting_is_kept}
use Rattle.c65_agree_put.proofs.laws.waiting_is_kept.Goals as goal

pub returns : goal.returns
returns c = waiting_is_kept
