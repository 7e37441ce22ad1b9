use Rattle.std.proofs.Common.{◌≡◌, drop}
use Rattle.std.specs.Prelude.{max}
use Rattle.c65_depth.specs.Numbers.{largest_to}
use Rattle.c65_depth.proofs.numbers.largest_to.Given as goal

abbrev pub invariant-loop-call : goal.invariant-loop-call
invariant-loop-call l = max l.largest (largest_to l.func (drop l.call-index l.calls)) ≡ largest_to l.func l.calls
