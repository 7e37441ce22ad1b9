use Rattle.c65_agree_homes.proofs.Params.{parameters_stand_in_order}
use Rattle.c65_agree_homes.proofs.laws.parameters_stand_in_order.Goals as goal

pub returns : goal.returns
returns c = parameters_stand_in_order
