use Rattle.c65_agree_slots.proofs.Taken.{taken_arguments_have_sizes}
use Rattle.c65_agree_slots.proofs.laws.taken_arguments_have_sizes.Goals as goal

pub returns : goal.returns
returns c = taken_arguments_have_sizes
