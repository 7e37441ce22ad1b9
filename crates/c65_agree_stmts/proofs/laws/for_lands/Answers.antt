use Rattle.c65_agree_stmts.proofs.Arms.{for_lands}
use Rattle.c65_agree_stmts.proofs.laws.for_lands.Goals as goal

pub returns : goal.returns
returns c = for_lands
