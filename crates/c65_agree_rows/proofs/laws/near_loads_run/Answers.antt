use Rattle.c65_agree_rows.proofs.Loads.{near_loads_run}
use Rattle.c65_agree_rows.proofs.laws.near_loads_run.Goals as goal

pub returns : goal.returns
returns c = near_loads_run
