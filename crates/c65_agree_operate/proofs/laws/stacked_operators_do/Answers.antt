use Rattle.c65_agree_operate.proofs.Stacked.{stacked_operators_do}
use Rattle.c65_agree_operate.proofs.laws.stacked_operators_do.Goals as goal

pub returns : goal.returns
returns c = stacked_operators_do
