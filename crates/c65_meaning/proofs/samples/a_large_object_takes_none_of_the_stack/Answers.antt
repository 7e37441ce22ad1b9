use Rattle.std.proofs.Common.{refl}
use Rattle.c65_meaning.proofs.samples.a_large_object_takes_none_of_the_stack.Goals as goal

pub returns : goal.returns
returns c = record { running = tt; ending = refl }
