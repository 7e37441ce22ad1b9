use Rattle.c65_agree_stmts.proofs.Labels.{default_does}
use Rattle.c65_agree_stmts.proofs.laws.default_does.Goals as goal

pub returns : goal.returns
returns c = default_does
