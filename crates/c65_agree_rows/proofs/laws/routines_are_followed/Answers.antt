use Rattle.c65_agree_rows.proofs.Quiet.{routines_are_followed}
use Rattle.c65_agree_rows.proofs.laws.routines_are_followed.Goals as goal

pub returns : goal.returns
returns c = routines_are_followed
