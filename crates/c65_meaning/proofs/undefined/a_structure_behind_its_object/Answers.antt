use Rattle.std.proofs.Common.{refl}
use Rattle.c65_meaning.proofs.undefined.a_structure_behind_its_object.Goals as goal

pub returns : goal.returns
returns c = record { running = tt; ending = refl }
