use Rattle.c65_agree_argument.proofs.Scalars.{scalars_are_passed}
use Rattle.c65_agree_argument.proofs.laws.scalars_are_passed.Goals as goal

pub returns : goal.returns
returns c = scalars_are_passed
