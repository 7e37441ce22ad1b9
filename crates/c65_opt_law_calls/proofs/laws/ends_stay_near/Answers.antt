use Rattle.c65_opt_law_calls.proofs.Calls.{ends_stay_near}
use Rattle.c65_opt_law_calls.proofs.laws.ends_stay_near.Goals as goal

pub returns : goal.returns
returns c = ends_stay_near
