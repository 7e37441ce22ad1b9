use Rattle.c65_agree_operate.proofs.Manners.{manners_do}
use Rattle.c65_agree_operate.proofs.laws.manners_do.Goals as goal

pub returns : goal.returns
returns c = manners_do
