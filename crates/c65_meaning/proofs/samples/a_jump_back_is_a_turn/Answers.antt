use Rattle.std.proofs.Common.{refl}
use Rattle.c65_meaning.proofs.samples.a_jump_back_is_a_turn.Goals as goal

pub returns : goal.returns
returns c = record { running = tt; ending = refl }
