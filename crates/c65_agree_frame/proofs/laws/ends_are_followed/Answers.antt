use Rattle.c65_agree_frame.proofs.Ends.{ends_are_followed}
use Rattle.c65_agree_frame.proofs.laws.ends_are_followed.Goals as goal

pub returns : goal.returns
returns c = ends_are_followed
