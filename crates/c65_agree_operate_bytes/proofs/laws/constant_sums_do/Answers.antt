use Rattle.c65_agree_operate_bytes.proofs.Sums.{constant_sums_do}
use Rattle.c65_agree_operate_bytes.proofs.laws.constant_sums_do.Goals as goal

pub returns : goal.returns
returns c = constant_sums_do
