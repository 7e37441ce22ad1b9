use Rattle.c65_link_law_runtime.proofs.Runtime.{linked_runtimes_are_met}
use Rattle.c65_link_law_runtime.proofs.laws.linked_runtimes_are_met.Goals as goal

pub returns : goal.returns
returns c = linked_runtimes_are_met
