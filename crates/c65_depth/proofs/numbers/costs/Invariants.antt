use Rattle.std.proofs.Common.{◌≡◌}
use Rattle.c65_depth.specs.Facts.{cost_at}
use Rattle.c65_depth.specs.Numbers.{passed, with_passed}
use Rattle.c65_depth.specs.Tables.{each}
use Rattle.c65_depth.proofs.numbers.costs.Given as goal

abbrev pub invariant-loop-func : goal.invariant-loop-func
invariant-loop-func l = l.costs.items ≡ each l.func (λ f. with_passed (passed l.graph l.standings l.main l.first f) (cost_at l.graph f))
