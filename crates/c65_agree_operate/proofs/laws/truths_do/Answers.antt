use Rattle.c65_agree_operate.proofs.Truths.{truths_do}
use Rattle.c65_agree_operate.proofs.laws.truths_do.Goals as goal

pub returns : goal.returns
returns c = truths_do
