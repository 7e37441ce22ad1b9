use Rattle.c65_agree_rows.proofs.Families.{opposites_run}
use Rattle.c65_agree_rows.proofs.laws.opposites_run.Goals as goal

pub returns : goal.returns
returns c = opposites_run
