use Rattle.std.proofs.Common.{◌≡◌, false}
use Rattle.c65_depth.specs.Tables.{each}
use Rattle.c65_depth.proofs.reached.no_leads.Given as goal

abbrev pub invariant-loop-round : goal.invariant-loop-round
invariant-loop-round l = l.marks.items ≡ each l._round (λ f. false)
