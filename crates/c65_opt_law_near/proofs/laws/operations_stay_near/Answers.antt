use Rattle.c65_opt_law_near.proofs.Operations.{operations_stay_near}
use Rattle.c65_opt_law_near.proofs.laws.operations_stay_near.Goals as goal

pub returns : goal.returns
returns c = operations_stay_near
