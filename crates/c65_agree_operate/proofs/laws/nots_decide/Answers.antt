use Rattle.c65_agree_operate.proofs.Truths.{nots_decide}
use Rattle.c65_agree_operate.proofs.laws.nots_decide.Goals as goal

pub returns : goal.returns
returns c = nots_decide
