use Rattle.c65_agree_order.proofs.LowSums.{low_operands_do}
use Rattle.c65_agree_order.proofs.laws.low_operands_do.Goals as goal

pub returns : goal.returns
returns c = low_operands_do
