use Rattle.c65_agree_rows.proofs.Quiet.{quiet_rows_scratch}
use Rattle.c65_agree_rows.proofs.laws.quiet_rows_scratch.Goals as goal

pub returns : goal.returns
returns c = quiet_rows_scratch
