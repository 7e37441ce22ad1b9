use Rattle.c65_opt_law_straight.proofs.Rows.{lines_stay_near}
use Rattle.c65_opt_law_straight.proofs.laws.lines_stay_near.Goals as goal

pub returns : goal.returns
returns c = lines_stay_near
