use Rattle.c65_agree_function.proofs.Given.{functions_give_by_type}
use Rattle.c65_agree_function.proofs.laws.functions_give_by_type.Goals as goal

pub returns : goal.returns
returns c = functions_give_by_type
