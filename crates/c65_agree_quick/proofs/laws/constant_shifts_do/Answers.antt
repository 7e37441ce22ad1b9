use Rattle.c65_agree_quick.proofs.Shifts.{constant_shifts_do}
use Rattle.c65_agree_quick.proofs.laws.constant_shifts_do.Goals as goal

pub returns : goal.returns
returns c = constant_shifts_do
