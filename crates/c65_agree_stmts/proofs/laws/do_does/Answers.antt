use Rattle.c65_agree_stmts.proofs.Do.{do_does}
use Rattle.c65_agree_stmts.proofs.laws.do_does.Goals as goal

pub returns : goal.returns
returns c = do_does
