use Rattle.c65_agree_copy.proofs.Followed.{copies_are_followed}
use Rattle.c65_agree_copy.proofs.laws.copies_are_followed.Goals as goal

pub returns : goal.returns
returns c = copies_are_followed
