use Rattle.std.proofs.Common.{refl}
use Rattle.c65_meaning.proofs.undefined.a_jump_past_an_initialiser.Goals as goal

pub returns : goal.returns
returns c = record { running = tt; ending = refl }
