use Rattle.c65_agree_argument.proofs.Passed.{arguments_are_passed}
use Rattle.c65_agree_argument.proofs.laws.arguments_are_passed.Goals as goal

pub returns : goal.returns
returns c = arguments_are_passed
