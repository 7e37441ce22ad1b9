use Rattle.c65_agree_put.proofs.Puts.{banks_follow}
use Rattle.c65_agree_put.proofs.laws.banks_follow.Goals as goal

pub returns : goal.returns
returns c = banks_follow
