use Rattle.c65_agree_access.proofs.ElementSums.{sums_are_elements}
use Rattle.c65_agree_access.proofs.element_laws.sums_are_elements.Goals as goal

pub returns : goal.returns
returns c = sums_are_elements
