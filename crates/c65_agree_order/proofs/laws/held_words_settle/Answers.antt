use Rattle.c65_agree_order.proofs.Words.{held_words_settle}
use Rattle.c65_agree_order.proofs.laws.held_words_settle.Goals as goal

pub returns : goal.returns
returns c = held_words_settle
