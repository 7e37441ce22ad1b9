use Rattle.c65_agree_state.proofs.Nodes.{ready_stays}
use Rattle.c65_agree_state.proofs.laws.ready_stays.Goals as goal

pub returns : goal.returns
returns c = ready_stays
