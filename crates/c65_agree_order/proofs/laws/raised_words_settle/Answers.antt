use Rattle.c65_agree_order.proofs.Raised.{raised_words_settle}
use Rattle.c65_agree_order.proofs.laws.raised_words_settle.Goals as goal

pub returns : goal.returns
returns c = raised_words_settle
