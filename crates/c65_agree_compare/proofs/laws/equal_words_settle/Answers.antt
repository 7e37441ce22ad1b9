use Rattle.c65_agree_compare.proofs.Directs.{equal_words_settle}
use Rattle.c65_agree_compare.proofs.laws.equal_words_settle.Goals as goal

pub returns : goal.returns
returns c = equal_words_settle
