use Rattle.std.proofs.Common.{refl}
use Rattle.c65_meaning.proofs.samples.a_bit_field_is_stored_over_unset_bits.Goals as goal

pub returns : goal.returns
returns c = record { running = tt; ending = refl }
