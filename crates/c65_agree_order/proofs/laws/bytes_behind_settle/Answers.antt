use Rattle.c65_agree_order.proofs.Bytes.{bytes_behind_settle}
use Rattle.c65_agree_order.proofs.laws.bytes_behind_settle.Goals as goal

pub returns : goal.returns
returns c = bytes_behind_settle
