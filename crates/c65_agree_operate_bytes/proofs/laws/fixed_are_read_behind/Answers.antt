use Rattle.c65_agree_operate_bytes.proofs.DirectLefts.{fixed_are_read_behind}
use Rattle.c65_agree_operate_bytes.proofs.laws.fixed_are_read_behind.Goals as goal

pub returns : goal.returns
returns c = fixed_are_read_behind
