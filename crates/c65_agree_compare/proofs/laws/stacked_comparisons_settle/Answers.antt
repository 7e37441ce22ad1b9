use Rattle.c65_agree_compare.proofs.Stacked.{stacked_comparisons_settle}
use Rattle.c65_agree_compare.proofs.laws.stacked_comparisons_settle.Goals as goal

pub returns : goal.returns
returns c = stacked_comparisons_settle
