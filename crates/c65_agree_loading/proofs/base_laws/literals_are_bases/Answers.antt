use Rattle.c65_agree_loading.proofs.Literals.{literals_are_bases}
use Rattle.c65_agree_loading.proofs.base_laws.literals_are_bases.Goals as goal

pub returns : goal.returns
returns c = literals_are_bases
