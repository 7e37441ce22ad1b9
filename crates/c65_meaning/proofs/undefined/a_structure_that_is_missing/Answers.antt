use Rattle.std.proofs.Common.{refl}
use Rattle.c65_meaning.proofs.undefined.a_structure_that_is_missing.Goals as goal

pub returns : goal.returns
returns c = record { running = tt; ending = refl }
