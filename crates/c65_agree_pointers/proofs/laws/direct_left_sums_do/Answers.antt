use Rattle.c65_agree_pointers.proofs.Lefts.{direct_left_sums_do}
use Rattle.c65_agree_pointers.proofs.laws.direct_left_sums_do.Goals as goal

pub returns : goal.returns
returns c = direct_left_sums_do
