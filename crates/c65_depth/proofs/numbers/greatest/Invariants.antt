use Rattle.std.proofs.Common.{◌≡◌, drop}
use Rattle.std.specs.Prelude.{max}
use Rattle.c65_depth.specs.Numbers.{greatest_soft, greatest_hard}
use Rattle.c65_depth.proofs.numbers.greatest.Given as goal

abbrev pub invariant-loop-call : goal.invariant-loop-call
invariant-loop-call l =
    (max l.most.soft (greatest_soft l.all (drop l.call-index l.calls)) ≡ greatest_soft l.all l.calls)
    × (max l.most.hard (greatest_hard l.all (drop l.call-index l.calls)) ≡ greatest_hard l.all l.calls)
