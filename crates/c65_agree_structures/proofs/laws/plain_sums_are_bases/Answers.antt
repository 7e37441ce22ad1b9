use Rattle.c65_agree_structures.proofs.Moved.{plain_sums_are_bases}
use Rattle.c65_agree_structures.proofs.laws.plain_sums_are_bases.Goals as goal

pub returns : goal.returns
returns c = plain_sums_are_bases
