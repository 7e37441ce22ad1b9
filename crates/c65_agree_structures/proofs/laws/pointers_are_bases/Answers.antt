use Rattle.c65_agree_structures.proofs.Pointers.{pointers_are_bases}
use Rattle.c65_agree_structures.proofs.laws.pointers_are_bases.Goals as goal

pub returns : goal.returns
returns c = pointers_are_bases
