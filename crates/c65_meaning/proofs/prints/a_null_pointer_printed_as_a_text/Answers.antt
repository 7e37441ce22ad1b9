use Rattle.std.proofs.Common.{refl}
use Rattle.c65_meaning.proofs.prints.a_null_pointer_printed_as_a_text.Goals as goal

pub returns : goal.returns
returns c = record { running = tt; ending = refl }
