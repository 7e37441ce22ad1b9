use Rattle.std.proofs.Common.{refl}
use Rattle.c65_meaning.proofs.samples.least_is_below_one.Goals as goal

pub returns : goal.returns
returns c = record { running = tt; ending = refl }
