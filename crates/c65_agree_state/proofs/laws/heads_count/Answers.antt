use Rattle.c65_agree_state.proofs.Followed.{heads_count}
use Rattle.c65_agree_state.proofs.laws.heads_count.Goals as goal

pub returns : goal.returns
returns c = heads_count
