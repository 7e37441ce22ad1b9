use Rattle.std.proofs.Common.{refl}
use Rattle.c65_meaning.proofs.samples.a_bit_field_leaves_other_bits_unset.Goals as goal

pub returns : goal.returns
returns c = record { running = tt; ending = refl }
