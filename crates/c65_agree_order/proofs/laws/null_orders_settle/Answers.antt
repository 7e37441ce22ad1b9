use Rattle.c65_agree_order.proofs.PointerNulls.{null_orders_settle}
use Rattle.c65_agree_order.proofs.laws.null_orders_settle.Goals as goal

pub returns : goal.returns
returns c = null_orders_settle
