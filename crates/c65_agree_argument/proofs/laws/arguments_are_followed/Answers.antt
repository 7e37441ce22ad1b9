use Rattle.c65_agree_argument.proofs.Arguments.{arguments_are_followed}
use Rattle.c65_agree_argument.proofs.laws.arguments_are_followed.Goals as goal

pub returns : goal.returns
returns c = arguments_are_followed
