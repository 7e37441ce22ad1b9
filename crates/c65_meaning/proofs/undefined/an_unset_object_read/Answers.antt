use Rattle.std.proofs.Common.{refl}
use Rattle.c65_meaning.proofs.undefined.an_unset_object_read.Goals as goal

pub returns : goal.returns
returns c = record { running = tt; ending = refl }
