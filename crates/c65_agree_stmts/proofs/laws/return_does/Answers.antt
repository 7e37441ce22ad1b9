use Rattle.c65_agree_stmts.proofs.Leaving.{return_does}
use Rattle.c65_agree_stmts.proofs.laws.return_does.Goals as goal

pub returns : goal.returns
returns c = return_does
