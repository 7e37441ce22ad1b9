use Rattle.c65_agree_structures.proofs.Spills.{spills_do}
use Rattle.c65_agree_structures.proofs.laws.spills_do.Goals as goal

pub returns : goal.returns
returns c = spills_do
