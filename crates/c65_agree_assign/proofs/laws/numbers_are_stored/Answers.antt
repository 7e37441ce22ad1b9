use Rattle.c65_agree_assign.proofs.Stored.{numbers_are_stored}
use Rattle.c65_agree_assign.proofs.laws.numbers_are_stored.Goals as goal

pub returns : goal.returns
returns c = numbers_are_stored
