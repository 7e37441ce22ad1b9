use Rattle.c65_agree_pointers.proofs.Constants.{constant_elements_do}
use Rattle.c65_agree_pointers.proofs.laws.constant_elements_do.Goals as goal

pub returns : goal.returns
returns c = constant_elements_do
