use Rattle.c65_agree_function.proofs.Body.{functions_do}
use Rattle.c65_agree_function.proofs.laws.functions_do.Goals as goal

pub returns : goal.returns
returns c = functions_do
