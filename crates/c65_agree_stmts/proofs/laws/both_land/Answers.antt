use Rattle.c65_agree_stmts.proofs.Landings.{both_land}
use Rattle.c65_agree_stmts.proofs.laws.both_land.Goals as goal

pub returns : goal.returns
returns c = both_land
