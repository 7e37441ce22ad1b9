use Rattle.c65_agree_order.proofs.Words.{longs_settle}
use Rattle.c65_agree_order.proofs.laws.longs_settle.Goals as goal

pub returns : goal.returns
returns c = longs_settle
