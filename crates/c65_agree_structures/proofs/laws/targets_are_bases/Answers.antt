use Rattle.c65_agree_structures.proofs.Pointers.{targets_are_bases}
use Rattle.c65_agree_structures.proofs.laws.targets_are_bases.Goals as goal

pub returns : goal.returns
returns c = targets_are_bases
