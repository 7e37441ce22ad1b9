use Rattle.c65_agree_stmts.proofs.Bodies.{bodies_do}
use Rattle.c65_agree_stmts.proofs.laws.bodies_do.Goals as goal

pub returns : goal.returns
returns c = bodies_do
