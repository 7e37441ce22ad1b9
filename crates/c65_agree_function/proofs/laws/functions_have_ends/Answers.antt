use Rattle.c65_agree_function.proofs.Body.{functions_have_ends}
use Rattle.c65_agree_function.proofs.laws.functions_have_ends.Goals as goal

pub returns : goal.returns
returns c = functions_have_ends
