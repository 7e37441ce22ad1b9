use Rattle.c65_agree_pointers.proofs.Lines.{elements_are_told}
use Rattle.c65_agree_pointers.proofs.laws.elements_are_told.Goals as goal

pub returns : goal.returns
returns c = elements_are_told
