use Rattle.c65_agree_stmts.proofs.Labels.{case_does}
use Rattle.c65_agree_stmts.proofs.laws.case_does.Goals as goal

pub returns : goal.returns
returns c = case_does
