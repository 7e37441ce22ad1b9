use Rattle.c65_agree_variadic_call.proofs.Pointed.{further_functions_may_be_reached}
use Rattle.c65_agree_variadic_call.proofs.laws.further_functions_may_be_reached.Goals as goal

pub returns : goal.returns
returns c = further_functions_may_be_reached
