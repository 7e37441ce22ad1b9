use Rattle.c65_agree_raised.proofs.Objects.{raised_are_bases}
use Rattle.c65_agree_raised.proofs.laws.raised_are_bases.Goals as goal

pub returns : goal.returns
returns c = raised_are_bases
