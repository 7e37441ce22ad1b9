use Rattle.c65_agree_rows.proofs.Moves.{lowers_run}
use Rattle.c65_agree_rows.proofs.laws.lowers_run.Goals as goal

pub returns : goal.returns
returns c = lowers_run
