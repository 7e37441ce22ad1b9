use Rattle.c65_agree_stmts.proofs.Plain.{block_does}
use Rattle.c65_agree_stmts.proofs.laws.block_does.Goals as goal

pub returns : goal.returns
returns c = block_does
