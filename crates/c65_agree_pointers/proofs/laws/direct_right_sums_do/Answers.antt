use Rattle.c65_agree_pointers.proofs.Rights.{direct_right_sums_do}
use Rattle.c65_agree_pointers.proofs.laws.direct_right_sums_do.Goals as goal

pub returns : goal.returns
returns c = direct_right_sums_do
