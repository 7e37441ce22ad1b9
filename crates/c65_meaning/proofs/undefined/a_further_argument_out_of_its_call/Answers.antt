use Rattle.std.proofs.Common.{refl}
use Rattle.c65_meaning.proofs.undefined.a_further_argument_out_of_its_call.Goals as goal

pub returns : goal.returns
returns c = record { running = tt; ending = refl }
