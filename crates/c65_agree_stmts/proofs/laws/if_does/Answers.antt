use Rattle.c65_agree_stmts.proofs.Plain.{if_does}
use Rattle.c65_agree_stmts.proofs.laws.if_does.Goals as goal

pub returns : goal.returns
returns c = if_does
