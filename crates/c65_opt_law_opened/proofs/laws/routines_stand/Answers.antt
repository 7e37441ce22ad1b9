use Rattle.c65_opt_law_opened.proofs.Stand.{routines_stand}
use Rattle.c65_opt_law_opened.proofs.laws.routines_stand.Goals as goal

pub returns : goal.returns
returns c = routines_stand
