use Rattle.std.proofs.Common.{refl}
use Rattle.c65_meaning.proofs.undefined.a_copy_that_overlaps.Goals as goal

pub returns : goal.returns
returns c = record { running = tt; ending = refl }
