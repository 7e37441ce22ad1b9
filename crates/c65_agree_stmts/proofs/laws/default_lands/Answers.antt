use Rattle.c65_agree_stmts.proofs.Landings.{default_lands}
use Rattle.c65_agree_stmts.proofs.laws.default_lands.Goals as goal

pub returns : goal.returns
returns c = default_lands
