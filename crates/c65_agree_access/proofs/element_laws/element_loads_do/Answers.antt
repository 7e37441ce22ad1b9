use Rattle.c65_agree_access.proofs.ElementLoads.{element_loads_do}
use Rattle.c65_agree_access.proofs.element_laws.element_loads_do.Goals as goal

pub returns : goal.returns
returns c = element_loads_do
