use Rattle.c65_agree_order.proofs.Lows.{conversions_keep_lows}
use Rattle.c65_agree_order.proofs.laws.conversions_keep_lows.Goals as goal

pub returns : goal.returns
returns c = conversions_keep_lows
