use Rattle.std.proofs.Common.{◌≡◌, ◌+◌, ◌-◌, ◌^◌, ◌≤◌, min, length, drop}
use Rattle.std.specs.Prelude.{sum_by}
use Rattle.c65_sim.specs.View.{arguments_size}
use Rattle.c65_sim.proofs.run.arguments_size.Given as goal

abbrev pub invariant-loop-arg : goal.invariant-loop-arg
invariant-loop-arg l =
    (min (arguments_size l.args) (2 ^ 64 - 1) ≡ min (l.size + sum_by (λ arg. length arg + 1) (drop l.arg-index l.args)) (2 ^ 64 - 1))
    × (l.size ≤ 2 ^ 64 - 1)
