use Rattle.c65_agree_variadic_function.proofs.Calls.{further_calls_have_callees}
use Rattle.c65_agree_variadic_function.proofs.laws.further_calls_have_callees.Goals as goal

pub returns : goal.returns
returns c = further_calls_have_callees
