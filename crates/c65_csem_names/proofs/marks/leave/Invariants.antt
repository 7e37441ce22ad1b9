use Rattle.std.proofs.Common.{◌≡◌}
use Rattle.c65_csem_names.specs.Tests
use Rattle.c65_csem_names.proofs.marks.leave.Given as goal

abbrev pub invariant-loop-number : goal.invariant-loop-number
invariant-loop-number l = Tests.left l.fresh.items l.marks.items ≡ Tests.left l.fn.fresh.items l.fn.marks.items

abbrev pub decreases-loop-number : goal.decreases-loop-number
decreases-loop-number l = goal.left-loop-number l
