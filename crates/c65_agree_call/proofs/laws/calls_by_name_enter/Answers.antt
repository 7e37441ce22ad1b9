use Rattle.c65_agree_call.proofs.Entering.{calls_by_name_enter}
use Rattle.c65_agree_call.proofs.laws.calls_by_name_enter.Goals as goal

pub returns : goal.returns
returns c = calls_by_name_enter
