use Rattle.c65_agree_stmts.proofs.Switch.{switch_does}
use Rattle.c65_agree_stmts.proofs.laws.switch_does.Goals as goal

pub returns : goal.returns
returns c = switch_does
