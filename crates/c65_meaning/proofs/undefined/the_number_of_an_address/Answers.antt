use Rattle.std.proofs.Common.{refl}
use Rattle.c65_meaning.proofs.undefined.the_number_of_an_address.Goals as goal

pub returns : goal.returns
returns c = record { running = tt; ending = refl }
