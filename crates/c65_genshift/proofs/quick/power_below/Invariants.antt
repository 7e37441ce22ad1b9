use Rattle.std.proofs.Common.{◌≡◌, ◌≤◌}
use Rattle.c65_genshift.specs.Quick.{power_below}
use Rattle.c65_genshift.proofs.quick.power_below.Given as goal

abbrev pub invariant-loop-above : goal.invariant-loop-above
invariant-loop-above l = (l.above ≤ 32) × (power_below l.fn.bound l.fn.number ≡ power_below l.above l.fn.number)

abbrev pub decreases-loop-above : goal.decreases-loop-above
decreases-loop-above l = l.above
