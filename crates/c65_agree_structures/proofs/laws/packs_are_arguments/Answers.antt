use Rattle.c65_agree_structures.proofs.Packs.{packs_are_arguments}
use Rattle.c65_agree_structures.proofs.laws.packs_are_arguments.Goals as goal

pub returns : goal.returns
returns c = packs_are_arguments
