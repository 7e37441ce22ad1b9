use Rattle.c65_agree_argument.proofs.Arguments.{arguments_leave_weight}
use Rattle.c65_agree_argument.proofs.laws.arguments_leave_weight.Goals as goal

pub returns : goal.returns
returns c = arguments_leave_weight
