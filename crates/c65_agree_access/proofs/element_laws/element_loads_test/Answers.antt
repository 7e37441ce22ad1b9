use Rattle.c65_agree_access.proofs.ElementTests.{element_loads_test}
use Rattle.c65_agree_access.proofs.element_laws.element_loads_test.Goals as goal

pub returns : goal.returns
returns c = element_loads_test
