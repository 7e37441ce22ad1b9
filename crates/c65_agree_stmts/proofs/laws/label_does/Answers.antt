use Rattle.c65_agree_stmts.proofs.Labels.{label_does}
use Rattle.c65_agree_stmts.proofs.laws.label_does.Goals as goal

pub returns : goal.returns
returns c = label_does
