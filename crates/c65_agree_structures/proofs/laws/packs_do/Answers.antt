use Rattle.c65_agree_structures.proofs.Packs.{packs_do}
use Rattle.c65_agree_structures.proofs.laws.packs_do.Goals as goal

pub returns : goal.returns
returns c = packs_do
