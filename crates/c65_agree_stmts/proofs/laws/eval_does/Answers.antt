use Rattle.c65_agree_stmts.proofs.Plain.{eval_does}
use Rattle.c65_agree_stmts.proofs.laws.eval_does.Goals as goal

pub returns : goal.returns
returns c = eval_does
