use Rattle.c65_agree_structures.proofs.Bases.{objects_are_bases}
use Rattle.c65_agree_structures.proofs.laws.objects_are_bases.Goals as goal

pub returns : goal.returns
returns c = objects_are_bases
