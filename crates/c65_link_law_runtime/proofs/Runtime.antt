-- The lines of each routine stand under its number.
use Rattle.c65_link_law_reach.specs.Reach.{runtime_in}
use Rattle.c65_link_law_reach.proofs.Units.{routine_at}
use Rattle.c65_rtl_law_runtime.proofs.All.{runtime_is_met}
use Rattle.c65_link_law_runtime.specs.Laws.{LinkedRuntimesAreMet}

pub linked_runtimes_are_met : LinkedRuntimesAreMet
linked_runtimes_are_met code args = runtime_is_met (runtime_in code args) (λ r has. routine_at code args r)
