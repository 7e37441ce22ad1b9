use Rattle.c65_agree_order.proofs.Lows.{values_are_low}
use Rattle.c65_agree_order.proofs.laws.values_are_low.Goals as goal

pub returns : goal.returns
returns c = values_are_low
