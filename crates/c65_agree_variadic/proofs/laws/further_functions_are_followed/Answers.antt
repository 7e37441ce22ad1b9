use Rattle.c65_agree_variadic.proofs.Whole.{further_functions_are_followed}
use Rattle.c65_agree_variadic.proofs.laws.further_functions_are_followed.Goals as goal

pub returns : goal.returns
returns c = further_functions_are_followed
