use Rattle.c65_agree_raised.proofs.Addressed.{raised_are_addressed}
use Rattle.c65_agree_raised.proofs.laws.raised_are_addressed.Goals as goal

pub returns : goal.returns
returns c = raised_are_addressed
