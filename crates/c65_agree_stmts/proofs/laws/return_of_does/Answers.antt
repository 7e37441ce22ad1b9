use Rattle.c65_agree_stmts.proofs.Leaving.{return_of_does}
use Rattle.c65_agree_stmts.proofs.laws.return_of_does.Goals as goal

pub returns : goal.returns
returns c = return_of_does
