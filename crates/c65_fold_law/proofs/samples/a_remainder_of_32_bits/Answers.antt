use Rattle.std.proofs.Common.{refl}
use Rattle.c65_fold_law.proofs.samples.a_remainder_of_32_bits.Goals as goal

pub returns : goal.returns
returns c = record { running = tt; ending = refl }
