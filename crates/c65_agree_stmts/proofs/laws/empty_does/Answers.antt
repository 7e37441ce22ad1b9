use Rattle.c65_agree_stmts.proofs.Plain.{empty_does}
use Rattle.c65_agree_stmts.proofs.laws.empty_does.Goals as goal

pub returns : goal.returns
returns c = empty_does
