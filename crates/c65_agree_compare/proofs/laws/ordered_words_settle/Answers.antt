use Rattle.c65_agree_compare.proofs.Directs.{ordered_words_settle}
use Rattle.c65_agree_compare.proofs.laws.ordered_words_settle.Goals as goal

pub returns : goal.returns
returns c = ordered_words_settle
