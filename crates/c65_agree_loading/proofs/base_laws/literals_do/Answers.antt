use Rattle.c65_agree_loading.proofs.Literals.{literals_do}
use Rattle.c65_agree_loading.proofs.base_laws.literals_do.Goals as goal

pub returns : goal.returns
returns c = literals_do
