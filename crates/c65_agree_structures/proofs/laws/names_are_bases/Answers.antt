use Rattle.c65_agree_structures.proofs.Pointers.{names_are_bases}
use Rattle.c65_agree_structures.proofs.laws.names_are_bases.Goals as goal

pub returns : goal.returns
returns c = names_are_bases
