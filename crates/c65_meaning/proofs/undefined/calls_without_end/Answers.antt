use Rattle.std.proofs.Common.{refl}
use Rattle.c65_meaning.proofs.undefined.calls_without_end.Goals as goal

pub returns : goal.returns
returns c = record { running = tt; ending = refl }
