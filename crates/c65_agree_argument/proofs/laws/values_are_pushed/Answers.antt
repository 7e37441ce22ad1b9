use Rattle.c65_agree_argument.proofs.Pushed.{values_are_pushed}
use Rattle.c65_agree_argument.proofs.laws.values_are_pushed.Goals as goal

pub returns : goal.returns
returns c = values_are_pushed
