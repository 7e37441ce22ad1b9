use Rattle.c65_agree_access.proofs.LowElements.{low_element_loads_do}
use Rattle.c65_agree_access.proofs.element_laws.low_element_loads_do.Goals as goal

pub returns : goal.returns
returns c = low_element_loads_do
