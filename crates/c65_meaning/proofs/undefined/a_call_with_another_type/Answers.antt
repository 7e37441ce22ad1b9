use Rattle.std.proofs.Common.{refl}
use Rattle.c65_meaning.proofs.undefined.a_call_with_another_type.Goals as goal

pub returns : goal.returns
returns c = record { running = tt; ending = refl }
