use Rattle.c65_agree_stmts.proofs.Switch.{switch_lands}
use Rattle.c65_agree_stmts.proofs.laws.switch_lands.Goals as goal

pub returns : goal.returns
returns c = switch_lands
