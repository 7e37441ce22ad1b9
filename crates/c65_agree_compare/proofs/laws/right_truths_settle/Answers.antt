use Rattle.c65_agree_compare.proofs.Zeros.{right_truths_settle}
use Rattle.c65_agree_compare.proofs.laws.right_truths_settle.Goals as goal

pub returns : goal.returns
returns c = right_truths_settle
