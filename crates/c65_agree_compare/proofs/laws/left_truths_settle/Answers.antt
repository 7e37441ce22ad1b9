use Rattle.c65_agree_compare.proofs.Zeros.{left_truths_settle}
use Rattle.c65_agree_compare.proofs.laws.left_truths_settle.Goals as goal

pub returns : goal.returns
returns c = left_truths_settle
