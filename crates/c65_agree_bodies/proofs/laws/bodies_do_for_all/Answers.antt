use Rattle.c65_agree_bodies.proofs.Bodies.{bodies_do_for_all}
use Rattle.c65_agree_bodies.proofs.laws.bodies_do_for_all.Goals as goal

pub returns : goal.returns
returns c = bodies_do_for_all
