use Rattle.c65_agree_pointers.proofs.Held.{held_sums_do}
use Rattle.c65_agree_pointers.proofs.laws.held_sums_do.Goals as goal

pub returns : goal.returns
returns c = held_sums_do
