use Rattle.c65_agree_stmts.proofs.Trees.{statements_do}
use Rattle.c65_agree_stmts.proofs.laws.statements_do.Goals as goal

pub returns : goal.returns
returns c = statements_do
