use Rattle.c65_agree_slots.proofs.Calls.{bodies_serve_calls}
use Rattle.c65_agree_slots.proofs.laws.bodies_serve_calls.Goals as goal

pub returns : goal.returns
returns c = bodies_serve_calls
