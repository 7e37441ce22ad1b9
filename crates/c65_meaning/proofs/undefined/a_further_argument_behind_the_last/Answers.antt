use Rattle.std.proofs.Common.{refl}
use Rattle.c65_meaning.proofs.undefined.a_further_argument_behind_the_last.Goals as goal

pub returns : goal.returns
returns c = record { running = tt; ending = refl }
