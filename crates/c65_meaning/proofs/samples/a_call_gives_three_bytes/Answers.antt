use Rattle.std.proofs.Common.{refl}
use Rattle.c65_meaning.proofs.samples.a_call_gives_three_bytes.Goals as goal

pub returns : goal.returns
returns c = record { running = tt; ending = refl }
