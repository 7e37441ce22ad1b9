use Rattle.c65_agree_state.proofs.Nodes.{addresses_do}
use Rattle.c65_agree_state.proofs.laws.addresses_do.Goals as goal

pub returns : goal.returns
returns c = addresses_do
