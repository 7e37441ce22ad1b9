use Rattle.c65_agree_stmts.proofs.While.{while_does}
use Rattle.c65_agree_stmts.proofs.laws.while_does.Goals as goal

pub returns : goal.returns
returns c = while_does
