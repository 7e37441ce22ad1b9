use Rattle.c65_agree_stmts.proofs.Leaving.{continue_does}
use Rattle.c65_agree_stmts.proofs.laws.continue_does.Goals as goal

pub returns : goal.returns
returns c = continue_does
