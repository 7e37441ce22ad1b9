use Rattle.std.proofs.Common.{refl}
use Rattle.c65_meaning.proofs.samples.arguments_go_from_left_to_right.Goals as goal

pub returns : goal.returns
returns c = record { running = tt; ending = refl }
