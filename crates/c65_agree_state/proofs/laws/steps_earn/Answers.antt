use Rattle.c65_agree_state.proofs.Followed.{steps_earn}
use Rattle.c65_agree_state.proofs.laws.steps_earn.Goals as goal

pub returns : goal.returns
returns c = steps_earn
