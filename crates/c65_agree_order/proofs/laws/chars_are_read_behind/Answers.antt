use Rattle.c65_agree_order.proofs.ReadBytes.{chars_are_read_behind}
use Rattle.c65_agree_order.proofs.laws.chars_are_read_behind.Goals as goal

pub returns : goal.returns
returns c = chars_are_read_behind
