use Rattle.c65_agree_quick.proofs.Elements.{elements_are_scaled}
use Rattle.c65_agree_quick.proofs.laws.elements_are_scaled.Goals as goal

pub returns : goal.returns
returns c = elements_are_scaled
