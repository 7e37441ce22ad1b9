use Rattle.c65_agree_loading.proofs.Literals.{literals_tell}
use Rattle.c65_agree_loading.proofs.base_laws.literals_tell.Goals as goal

pub returns : goal.returns
returns c = literals_tell
