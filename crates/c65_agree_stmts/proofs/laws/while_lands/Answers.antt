use Rattle.c65_agree_stmts.proofs.Arms.{while_lands}
use Rattle.c65_agree_stmts.proofs.laws.while_lands.Goals as goal

pub returns : goal.returns
returns c = while_lands
