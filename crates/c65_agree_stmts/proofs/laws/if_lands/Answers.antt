use Rattle.c65_agree_stmts.proofs.Arms.{if_lands}
use Rattle.c65_agree_stmts.proofs.laws.if_lands.Goals as goal

pub returns : goal.returns
returns c = if_lands
