use Rattle.c65_agree_slots.proofs.Callees.{functions_may_be_called}
use Rattle.c65_agree_slots.proofs.laws.functions_may_be_called.Goals as goal

pub returns : goal.returns
returns c = functions_may_be_called
