use Rattle.c65_code.proofs.WeightLaws.{leaves_a_open}
use Rattle.c65_code.proofs.laws.rows_leave_a_open.Goals as goal

pub returns : goal.returns
returns c = leaves_a_open
