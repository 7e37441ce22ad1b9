use Rattle.c65_agree_state.proofs.Followed.{ways_are_followed}
use Rattle.c65_agree_state.proofs.laws.ways_are_followed.Goals as goal

pub returns : goal.returns
returns c = ways_are_followed
