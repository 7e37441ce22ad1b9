use Rattle.std.proofs.Common.{◌≡◌}
use Rattle.c65_depth.specs.Numbers.{zero_numbers}
use Rattle.c65_depth.specs.Tables.{each}
use Rattle.c65_depth.proofs.numbers.no_numbers.Given as goal

abbrev pub invariant-loop-round : goal.invariant-loop-round
invariant-loop-round l = l.all.items ≡ each l._round (λ f. zero_numbers)
