use Rattle.c65_agree_state.proofs.Followed.{follows_weaken}
use Rattle.c65_agree_state.proofs.laws.follows_weaken.Goals as goal

pub returns : goal.returns
returns c = follows_weaken
