use Rattle.std.proofs.Common.{refl}
use Rattle.c65_meaning.proofs.prints.an_argument_of_which_two_bytes_are_lacking.Goals as goal

pub returns : goal.returns
returns c = record { running = tt; ending = refl }
