use Rattle.std.proofs.Common.{◌≡◌}
use Rattle.c65_depth.specs.Facts.{cost_at}
use Rattle.c65_depth.specs.Checks.{given_to}
use Rattle.c65_depth.specs.Tables.{each}
use Rattle.c65_depth.proofs.checks.given_all.Given as goal

abbrev pub invariant-loop-func : goal.invariant-loop-func
invariant-loop-func l = l.given.items ≡ each l.func (λ f. given_to l.rows f (cost_at l.graph f))
