use Rattle.c65_agree_operate.proofs.Conversions.{discards_do}
use Rattle.c65_agree_operate.proofs.laws.discards_do.Goals as goal

pub returns : goal.returns
returns c = discards_do
