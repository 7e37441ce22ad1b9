use Rattle.c65_agree_rows.proofs.Loads.{far_loads_run}
use Rattle.c65_agree_rows.proofs.laws.far_loads_run.Goals as goal

pub returns : goal.returns
returns c = far_loads_run
