use Rattle.c65_agree_state.proofs.Followed.{arrivals_count}
use Rattle.c65_agree_state.proofs.laws.arrivals_count.Goals as goal

pub returns : goal.returns
returns c = arrivals_count
