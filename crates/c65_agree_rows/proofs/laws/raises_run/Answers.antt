use Rattle.c65_agree_rows.proofs.Moves.{raises_run}
use Rattle.c65_agree_rows.proofs.laws.raises_run.Goals as goal

pub returns : goal.returns
returns c = raises_run
