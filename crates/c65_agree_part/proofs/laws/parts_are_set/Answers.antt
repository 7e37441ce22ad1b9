use Rattle.c65_agree_part.proofs.Set.{parts_are_set}
use Rattle.c65_agree_part.proofs.laws.parts_are_set.Goals as goal

pub returns : goal.returns
returns c = parts_are_set
