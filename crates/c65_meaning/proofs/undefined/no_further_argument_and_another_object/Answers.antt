use Rattle.std.proofs.Common.{refl}
use Rattle.c65_meaning.proofs.undefined.no_further_argument_and_another_object.Goals as goal

pub returns : goal.returns
returns c = record { running = tt; ending = refl }
