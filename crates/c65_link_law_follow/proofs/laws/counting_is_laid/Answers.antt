use Rattle.c65_link_law_follow.proofs.Counting.{counting_is_laid}
use Rattle.c65_link_law_follow.proofs.laws.counting_is_laid.Goals as goal

pub returns : goal.returns
returns c = counting_is_laid
