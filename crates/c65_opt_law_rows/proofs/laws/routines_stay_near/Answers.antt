use Rattle.c65_opt_law_rows.proofs.Routines.{routines_stay_near}
use Rattle.c65_opt_law_rows.proofs.laws.routines_stay_near.Goals as goal

pub returns : goal.returns
returns c = routines_stay_near
