use Rattle.c65_agree_operate.proofs.Manners.{usually_do}
use Rattle.c65_agree_operate.proofs.laws.usually_do.Goals as goal

pub returns : goal.returns
returns c = usually_do
