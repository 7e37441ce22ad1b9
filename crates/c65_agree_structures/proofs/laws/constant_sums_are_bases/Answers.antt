use Rattle.c65_agree_structures.proofs.Constants.{constant_sums_are_bases}
use Rattle.c65_agree_structures.proofs.laws.constant_sums_are_bases.Goals as goal

pub returns : goal.returns
returns c = constant_sums_are_bases
