use Rattle.c65_agree_slots.proofs.Results.{calls_take_what_is_given}
use Rattle.c65_agree_slots.proofs.laws.calls_take_what_is_given.Goals as goal

pub returns : goal.returns
returns c = calls_take_what_is_given
