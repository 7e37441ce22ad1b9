use Rattle.c65_agree_stmts.proofs.Landings.{label_lands}
use Rattle.c65_agree_stmts.proofs.laws.label_lands.Goals as goal

pub returns : goal.returns
returns c = label_lands
