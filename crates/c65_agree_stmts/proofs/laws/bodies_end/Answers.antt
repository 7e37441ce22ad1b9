use Rattle.c65_agree_stmts.proofs.Bodies.{bodies_end}
use Rattle.c65_agree_stmts.proofs.laws.bodies_end.Goals as goal

pub returns : goal.returns
returns c = bodies_end
