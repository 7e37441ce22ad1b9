use Rattle.c65_agree_rows.proofs.Loads.{widenings_run}
use Rattle.c65_agree_rows.proofs.laws.widenings_run.Goals as goal

pub returns : goal.returns
returns c = widenings_run
