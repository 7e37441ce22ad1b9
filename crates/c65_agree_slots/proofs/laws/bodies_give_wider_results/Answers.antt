use Rattle.c65_agree_slots.proofs.Shapes.{bodies_give_wider_results}
use Rattle.c65_agree_slots.proofs.laws.bodies_give_wider_results.Goals as goal

pub returns : goal.returns
returns c = bodies_give_wider_results
