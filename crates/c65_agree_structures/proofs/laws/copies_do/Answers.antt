use Rattle.c65_agree_structures.proofs.Copies.{copies_do}
use Rattle.c65_agree_structures.proofs.laws.copies_do.Goals as goal

pub returns : goal.returns
returns c = copies_do
