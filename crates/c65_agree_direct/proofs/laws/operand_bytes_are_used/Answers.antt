use Rattle.c65_agree_direct.proofs.Used.{operand_bytes_are_used}
use Rattle.c65_agree_direct.proofs.laws.operand_bytes_are_used.Goals as goal

pub returns : goal.returns
returns c = operand_bytes_are_used
