use Rattle.c65_agree_stmts.proofs.Leaving.{break_does}
use Rattle.c65_agree_stmts.proofs.laws.break_does.Goals as goal

pub returns : goal.returns
returns c = break_does
