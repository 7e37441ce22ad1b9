use Rattle.c65_agree_variadic_function.proofs.Calls.{accepted_bodies_serve_further_calls}
use Rattle.c65_agree_variadic_function.proofs.laws.accepted_bodies_serve_further_calls.Goals as goal

pub returns : goal.returns
returns c = accepted_bodies_serve_further_calls
