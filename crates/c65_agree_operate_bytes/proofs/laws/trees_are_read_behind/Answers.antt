use Rattle.c65_agree_operate_bytes.proofs.DirectLefts.{trees_are_read_behind}
use Rattle.c65_agree_operate_bytes.proofs.laws.trees_are_read_behind.Goals as goal

pub returns : goal.returns
returns c = trees_are_read_behind
