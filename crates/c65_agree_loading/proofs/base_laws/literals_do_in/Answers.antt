use Rattle.c65_agree_loading.proofs.Literals.{literals_do_in}
use Rattle.c65_agree_loading.proofs.base_laws.literals_do_in.Goals as goal

pub returns : goal.returns
returns c = literals_do_in
