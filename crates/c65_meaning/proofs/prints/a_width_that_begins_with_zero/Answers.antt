use Rattle.std.proofs.Common.{refl}
use Rattle.c65_meaning.proofs.prints.a_width_that_begins_with_zero.Goals as goal

pub returns : goal.returns
returns c = record { running = tt; ending = refl }
