use Rattle.std.proofs.Common.{◌≡◌}
use Rattle.c65_depth.specs.Reached.{leads_after}
use Rattle.c65_depth.proofs.reached.leads.Given as goal

abbrev pub invariant-loop-round : goal.invariant-loop-round
invariant-loop-round l = l.marks.items ≡ leads_after l.graph l.to l._round
