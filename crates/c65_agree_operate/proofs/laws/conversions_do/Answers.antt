use Rattle.c65_agree_operate.proofs.Conversions.{conversions_do}
use Rattle.c65_agree_operate.proofs.laws.conversions_do.Goals as goal

pub returns : goal.returns
returns c = conversions_do
