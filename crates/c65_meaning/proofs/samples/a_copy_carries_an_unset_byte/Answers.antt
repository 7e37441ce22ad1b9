use Rattle.std.proofs.Common.{refl}
use Rattle.c65_meaning.proofs.samples.a_copy_carries_an_unset_byte.Goals as goal

pub returns : goal.returns
returns c = record { running = tt; ending = refl }
