use Rattle.c65_agree_order.proofs.Words.{words_settle}
use Rattle.c65_agree_order.proofs.laws.words_settle.Goals as goal

pub returns : goal.returns
returns c = words_settle
