use Rattle.c65_link_law_follow.proofs.Follow.{lines_are_followed}
use Rattle.c65_link_law_follow.proofs.laws.lines_are_followed.Goals as goal

pub returns : goal.returns
returns c = lines_are_followed
