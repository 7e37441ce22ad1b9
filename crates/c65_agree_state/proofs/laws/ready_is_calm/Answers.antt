use Rattle.c65_agree_state.proofs.Followed.{ready_is_calm}
use Rattle.c65_agree_state.proofs.laws.ready_is_calm.Goals as goal

pub returns : goal.returns
returns c = ready_is_calm
