use Rattle.c65_agree_stmts.proofs.Landings.{case_lands}
use Rattle.c65_agree_stmts.proofs.laws.case_lands.Goals as goal

pub returns : goal.returns
returns c = case_lands
