use Rattle.std.proofs.Common.{refl}
use Rattle.c65_meaning.proofs.samples.a_case_falls_through.Goals as goal

pub returns : goal.returns
returns c = record { running = tt; ending = refl }
