use Rattle.std.proofs.Common.{◌≡◌}
use Rattle.c65_depth.specs.Numbers.{numbers_after}
use Rattle.c65_depth.proofs.numbers.all_numbers.Given as goal

abbrev pub invariant-loop-round : goal.invariant-loop-round
invariant-loop-round l = l.all.items ≡ numbers_after l.graph l.costs l._round
