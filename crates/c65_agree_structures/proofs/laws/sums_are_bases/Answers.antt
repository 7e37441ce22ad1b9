use Rattle.c65_agree_structures.proofs.Pointers.{sums_are_bases}
use Rattle.c65_agree_structures.proofs.laws.sums_are_bases.Goals as goal

pub returns : goal.returns
returns c = sums_are_bases
