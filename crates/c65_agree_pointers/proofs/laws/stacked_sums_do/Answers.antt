use Rattle.c65_agree_pointers.proofs.Stacked.{stacked_sums_do}
use Rattle.c65_agree_pointers.proofs.laws.stacked_sums_do.Goals as goal

pub returns : goal.returns
returns c = stacked_sums_do
