use Rattle.std.proofs.Common.{refl}
use Rattle.std.specs.Fmt.{digits}
use Rattle.c65_meaning.proofs.prints.further_arguments_are_printed_in_order.Goals as goal

pub returns : goal.returns
unfolding digits
returns c = record { running = tt; ending = refl }
