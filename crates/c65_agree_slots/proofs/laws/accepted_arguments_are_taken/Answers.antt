use Rattle.c65_agree_slots.proofs.Accepted.{accepted_arguments_are_taken}
use Rattle.c65_agree_slots.proofs.laws.accepted_arguments_are_taken.Goals as goal

pub returns : goal.returns
returns c = accepted_arguments_are_taken
