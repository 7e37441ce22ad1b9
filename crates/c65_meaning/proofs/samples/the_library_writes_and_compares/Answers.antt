use Rattle.std.proofs.Common.{refl}
use Rattle.c65_meaning.proofs.samples.the_library_writes_and_compares.Goals as goal

pub returns : goal.returns
returns c = record { running = tt; ending = refl }
