use Rattle.c65_agree_call.proofs.Entering.{calls_through_pointers_enter}
use Rattle.c65_agree_call.proofs.laws.calls_through_pointers_enter.Goals as goal

pub returns : goal.returns
returns c = calls_through_pointers_enter
