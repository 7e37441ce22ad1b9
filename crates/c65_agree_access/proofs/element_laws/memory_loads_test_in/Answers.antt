use Rattle.c65_agree_access.proofs.MemoryLoads.{memory_loads_test_in}
use Rattle.c65_agree_access.proofs.element_laws.memory_loads_test_in.Goals as goal

pub returns : goal.returns
returns c = memory_loads_test_in
