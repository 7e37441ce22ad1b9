use Rattle.c65_agree_variadic_function.proofs.Calls.{bodies_serve_further_calls}
use Rattle.c65_agree_variadic_function.proofs.laws.bodies_serve_further_calls.Goals as goal

pub returns : goal.returns
returns c = bodies_serve_further_calls
