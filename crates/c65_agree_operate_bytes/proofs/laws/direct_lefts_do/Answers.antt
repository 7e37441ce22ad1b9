use Rattle.c65_agree_operate_bytes.proofs.DirectLefts.{direct_lefts_do}
use Rattle.c65_agree_operate_bytes.proofs.laws.direct_lefts_do.Goals as goal

pub returns : goal.returns
returns c = direct_lefts_do
