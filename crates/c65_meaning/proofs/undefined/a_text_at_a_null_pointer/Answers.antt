use Rattle.std.proofs.Common.{refl}
use Rattle.c65_meaning.proofs.undefined.a_text_at_a_null_pointer.Goals as goal

pub returns : goal.returns
returns c = record { running = tt; ending = refl }
