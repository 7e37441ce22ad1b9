use Rattle.c65_agree_access.proofs.LowElements.{low_element_lines_are}
use Rattle.c65_agree_access.proofs.element_laws.low_element_lines_are.Goals as goal

pub returns : goal.returns
returns c = low_element_lines_are
