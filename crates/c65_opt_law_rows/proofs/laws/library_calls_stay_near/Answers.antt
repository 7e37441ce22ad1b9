use Rattle.c65_opt_law_rows.proofs.Routines.{library_calls_stay_near}
use Rattle.c65_opt_law_rows.proofs.laws.library_calls_stay_near.Goals as goal

pub returns : goal.returns
returns c = library_calls_stay_near
