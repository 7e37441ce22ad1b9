use Rattle.std.proofs.Common.{◌≡◌, slice_get}
use Rattle.c65_depth.specs.Facts.{calls_at}
use Rattle.c65_depth.specs.Numbers.{raised, flat}
use Rattle.c65_depth.specs.Tables.{each}
use Rattle.c65_depth.proofs.numbers.next_numbers.Given as goal

abbrev pub invariant-loop-func : goal.invariant-loop-func
invariant-loop-func l = l.next.items ≡ each l.func (λ f. raised l.all (calls_at l.graph f) (flat (slice_get l.costs f)))
