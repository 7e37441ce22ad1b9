use Rattle.c65_agree_variadic_function.proofs.Functions.{further_functions_may_be_called}
use Rattle.c65_agree_variadic_function.proofs.laws.further_functions_may_be_called.Goals as goal

pub returns : goal.returns
returns c = further_functions_may_be_called
