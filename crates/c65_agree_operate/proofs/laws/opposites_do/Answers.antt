use Rattle.c65_agree_operate.proofs.Opposites.{opposites_do}
use Rattle.c65_agree_operate.proofs.laws.opposites_do.Goals as goal

pub returns : goal.returns
returns c = opposites_do
