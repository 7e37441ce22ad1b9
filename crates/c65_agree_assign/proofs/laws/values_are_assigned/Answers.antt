use Rattle.c65_agree_assign.proofs.Widened.{values_are_assigned}
use Rattle.c65_agree_assign.proofs.laws.values_are_assigned.Goals as goal

pub returns : goal.returns
returns c = values_are_assigned
