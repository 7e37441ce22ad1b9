use Rattle.c65_agree_call.proofs.Whole.{functions_are_followed}
use Rattle.c65_agree_call.proofs.laws.functions_are_followed.Goals as goal

pub returns : goal.returns
returns c = functions_are_followed
