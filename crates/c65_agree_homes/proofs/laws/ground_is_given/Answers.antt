use Rattle.c65_agree_homes.proofs.Begins.{ground_is_given}
use Rattle.c65_agree_homes.proofs.laws.ground_is_given.Goals as goal

pub returns : goal.returns
returns c = ground_is_given
