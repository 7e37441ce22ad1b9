use Rattle.c65_agree_stmts.proofs.For.{for_does}
use Rattle.c65_agree_stmts.proofs.laws.for_does.Goals as goal

pub returns : goal.returns
returns c = for_does
