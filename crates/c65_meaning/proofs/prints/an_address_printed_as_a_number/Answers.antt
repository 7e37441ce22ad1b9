use Rattle.std.proofs.Common.{refl}
use Rattle.c65_meaning.proofs.prints.an_address_printed_as_a_number.Goals as goal

pub returns : goal.returns
returns c = record { running = tt; ending = refl }
