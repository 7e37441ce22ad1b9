use Rattle.c65_agree_state.proofs.Leaves.{constants_do}
use Rattle.c65_agree_state.proofs.laws.constants_do.Goals as goal

pub returns : goal.returns
returns c = constants_do
