use Rattle.c65_agree_slots.proofs.Calls.{calls_have_callees}
use Rattle.c65_agree_slots.proofs.laws.calls_have_callees.Goals as goal

pub returns : goal.returns
returns c = calls_have_callees
