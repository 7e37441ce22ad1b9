use Rattle.c65_agree_rows.proofs.Families.{operators_run}
use Rattle.c65_agree_rows.proofs.laws.operators_run.Goals as goal

pub returns : goal.returns
returns c = operators_run
