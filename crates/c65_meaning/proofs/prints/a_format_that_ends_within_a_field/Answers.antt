use Rattle.std.proofs.Common.{refl}
use Rattle.c65_meaning.proofs.prints.a_format_that_ends_within_a_field.Goals as goal

pub returns : goal.returns
returns c = record { running = tt; ending = refl }
