use Rattle.c65_agree_slots.proofs.Shapes.{accepted_bodies_serve_calls}
use Rattle.c65_agree_slots.proofs.laws.accepted_bodies_serve_calls.Goals as goal

pub returns : goal.returns
returns c = accepted_bodies_serve_calls
