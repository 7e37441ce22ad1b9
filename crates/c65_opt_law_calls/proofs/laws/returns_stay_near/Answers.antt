use Rattle.c65_opt_law_calls.proofs.Calls.{returns_stay_near}
use Rattle.c65_opt_law_calls.proofs.laws.returns_stay_near.Goals as goal

pub returns : goal.returns
returns c = returns_stay_near
