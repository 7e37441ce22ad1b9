use Rattle.c65_agree_homes.proofs.Given.{parts_are_given}
use Rattle.c65_agree_homes.proofs.laws.parts_are_given.Goals as goal

pub returns : goal.returns
returns c = parts_are_given
