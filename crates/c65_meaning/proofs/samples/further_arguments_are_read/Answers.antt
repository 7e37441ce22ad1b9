use Rattle.std.proofs.Common.{refl}
use Rattle.c65_meaning.proofs.samples.further_arguments_are_read.Goals as goal

pub returns : goal.returns
returns c = record { running = tt; ending = refl }
