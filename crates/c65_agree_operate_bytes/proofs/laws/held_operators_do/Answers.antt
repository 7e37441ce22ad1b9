use Rattle.c65_agree_operate_bytes.proofs.Held.{held_operators_do}
use Rattle.c65_agree_operate_bytes.proofs.laws.held_operators_do.Goals as goal

pub returns : goal.returns
returns c = held_operators_do
