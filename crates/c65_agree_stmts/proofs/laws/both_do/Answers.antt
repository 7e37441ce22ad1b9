use Rattle.c65_agree_stmts.proofs.Plain.{both_do}
use Rattle.c65_agree_stmts.proofs.laws.both_do.Goals as goal

pub returns : goal.returns
returns c = both_do
