use Rattle.c65_agree_rows.proofs.Families.{pushes_run}
use Rattle.c65_agree_rows.proofs.laws.pushes_run.Goals as goal

pub returns : goal.returns
returns c = pushes_run
