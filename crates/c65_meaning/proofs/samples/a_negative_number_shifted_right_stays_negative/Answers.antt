use Rattle.std.proofs.Common.{refl}
use Rattle.c65_meaning.proofs.samples.a_negative_number_shifted_right_stays_negative.Goals as goal

pub returns : goal.returns
returns c = record { running = tt; ending = refl }
