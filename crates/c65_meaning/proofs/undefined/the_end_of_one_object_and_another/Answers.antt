use Rattle.std.proofs.Common.{refl}
use Rattle.c65_meaning.proofs.undefined.the_end_of_one_object_and_another.Goals as goal

pub returns : goal.returns
returns c = record { running = tt; ending = refl }
