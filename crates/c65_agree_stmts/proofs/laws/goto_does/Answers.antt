use Rattle.c65_agree_stmts.proofs.Labels.{goto_does}
use Rattle.c65_agree_stmts.proofs.laws.goto_does.Goals as goal

pub returns : goal.returns
returns c = goto_does
