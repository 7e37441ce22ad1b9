use Rattle.c65_agree_stmts.proofs.Arms.{do_lands}
use Rattle.c65_agree_stmts.proofs.laws.do_lands.Goals as goal

pub returns : goal.returns
returns c = do_lands
