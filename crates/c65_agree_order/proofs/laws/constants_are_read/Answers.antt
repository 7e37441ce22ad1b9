use Rattle.c65_agree_order.proofs.ReadBytes.{constants_are_read}
use Rattle.c65_agree_order.proofs.laws.constants_are_read.Goals as goal

pub returns : goal.returns
returns c = constants_are_read
