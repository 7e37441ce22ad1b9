use Rattle.c65_agree_stmts.proofs.Lasts.{lasts_do}
use Rattle.c65_agree_stmts.proofs.laws.lasts_do.Goals as goal

pub returns : goal.returns
returns c = lasts_do
