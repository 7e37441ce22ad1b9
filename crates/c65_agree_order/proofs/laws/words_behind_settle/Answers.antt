use Rattle.c65_agree_order.proofs.Words.{words_behind_settle}
use Rattle.c65_agree_order.proofs.laws.words_behind_settle.Goals as goal

pub returns : goal.returns
returns c = words_behind_settle
