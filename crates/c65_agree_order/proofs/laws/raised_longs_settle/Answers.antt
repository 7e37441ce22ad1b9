use Rattle.c65_agree_order.proofs.Raised.{raised_longs_settle}
use Rattle.c65_agree_order.proofs.laws.raised_longs_settle.Goals as goal

pub returns : goal.returns
returns c = raised_longs_settle
