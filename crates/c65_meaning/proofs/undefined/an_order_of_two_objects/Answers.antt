use Rattle.std.proofs.Common.{refl}
use Rattle.c65_meaning.proofs.undefined.an_order_of_two_objects.Goals as goal

pub returns : goal.returns
returns c = record { running = tt; ending = refl }
