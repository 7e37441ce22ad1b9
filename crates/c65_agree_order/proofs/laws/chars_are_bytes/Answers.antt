use Rattle.c65_agree_order.proofs.Lows.{chars_are_bytes}
use Rattle.c65_agree_order.proofs.laws.chars_are_bytes.Goals as goal

pub returns : goal.returns
returns c = chars_are_bytes
