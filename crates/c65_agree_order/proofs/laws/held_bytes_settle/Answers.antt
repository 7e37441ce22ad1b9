use Rattle.c65_agree_order.proofs.Bytes.{held_bytes_settle}
use Rattle.c65_agree_order.proofs.laws.held_bytes_settle.Goals as goal

pub returns : goal.returns
returns c = held_bytes_settle
