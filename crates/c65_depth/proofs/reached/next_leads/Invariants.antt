use Rattle.std.proofs.Common.{◌≡◌}
use Rattle.c65_depth.specs.Facts.{calls_at}
use Rattle.c65_depth.specs.Reached.{any_leads}
use Rattle.c65_depth.specs.Tables.{each}
use Rattle.c65_depth.proofs.reached.next_leads.Given as goal

abbrev pub invariant-loop-func : goal.invariant-loop-func
invariant-loop-func l = l.next.items ≡ each l.func (λ f. any_leads l.to l.marks (calls_at l.graph f))
