use Rattle.std.proofs.Common.{◌≡◌, ◌+◌, ◌-◌, length}
use Rattle.c65_elab_scope.specs.Tables.{grown}
use Rattle.c65_elab_scope.proofs.table.grow.Given as goal

abbrev pub invariant-loop-current : goal.invariant-loop-current
invariant-loop-current l = grown l.current.items l.at ≡ grown l.fn.current.items l.at

abbrev pub decreases-loop-current : goal.decreases-loop-current
decreases-loop-current l = l.at + 1 - length l.current.items
