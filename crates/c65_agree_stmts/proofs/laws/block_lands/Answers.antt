use Rattle.c65_agree_stmts.proofs.Landings.{block_lands}
use Rattle.c65_agree_stmts.proofs.laws.block_lands.Goals as goal

pub returns : goal.returns
returns c = block_lands
