use Rattle.c65_fold_law.proofs.Settling.{constants_settle as the_law}
use Rattle.c65_fold_law.proofs.laws.constants_settle.Goals as goal

pub returns : goal.returns
returns c = the_law
