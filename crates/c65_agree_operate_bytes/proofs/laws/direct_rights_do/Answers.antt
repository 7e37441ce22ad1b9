use Rattle.c65_agree_operate_bytes.proofs.Rights.{direct_rights_do}
use Rattle.c65_agree_operate_bytes.proofs.laws.direct_rights_do.Goals as goal

pub returns : goal.returns
returns c = direct_rights_do
