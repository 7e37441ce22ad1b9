use Rattle.c65_opt_law_calls.proofs.Calls.{calls_stay_near}
use Rattle.c65_opt_law_calls.proofs.laws.calls_stay_near.Goals as goal

pub returns : goal.returns
returns c = calls_stay_near
