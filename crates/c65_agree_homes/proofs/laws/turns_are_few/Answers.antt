use Rattle.c65_agree_homes.proofs.Few.{turns_are_few}
use Rattle.c65_agree_homes.proofs.laws.turns_are_few.Goals as goal

pub returns : goal.returns
returns c = turns_are_few
