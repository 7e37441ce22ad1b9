use Rattle.std.proofs.Common.{refl}
use Rattle.c65_meaning.proofs.prints.a_text_with_unset_bits.Goals as goal

pub returns : goal.returns
returns c = record { running = tt; ending = refl }
