use Rattle.std.proofs.Common.{refl}
use Rattle.c65_meaning.proofs.samples.an_argument_carries_an_unset_bit.Goals as goal

pub returns : goal.returns
returns c = record { running = tt; ending = refl }
