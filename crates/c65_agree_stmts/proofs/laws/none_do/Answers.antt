use Rattle.c65_agree_stmts.proofs.Plain.{none_do}
use Rattle.c65_agree_stmts.proofs.laws.none_do.Goals as goal

pub returns : goal.returns
returns c = none_do
