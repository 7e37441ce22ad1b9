use Rattle.c65_agree_order.proofs.RaisedBytes.{raised_bytes_behind_settle}
use Rattle.c65_agree_order.proofs.laws.raised_bytes_behind_settle.Goals as goal

pub returns : goal.returns
returns c = raised_bytes_behind_settle
