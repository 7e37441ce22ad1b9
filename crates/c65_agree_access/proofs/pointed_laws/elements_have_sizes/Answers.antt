use Rattle.c65_agree_access.proofs.Sized.{elements_have_sizes}
use Rattle.c65_agree_access.proofs.pointed_laws.elements_have_sizes.Goals as goal

pub returns : goal.returns
returns c = elements_have_sizes
