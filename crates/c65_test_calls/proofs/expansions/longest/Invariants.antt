use Rattle.std.proofs.Common.{◌<◌, ◌≤◌, length}
use Rattle.c65_test_calls.proofs.expansions.longest.Given as goal

abbrev pub invariant-loop-length : goal.invariant-loop-length
invariant-loop-length l = (0 < l.length) × (l.length ≤ length l.text)

abbrev pub decreases-loop-length : goal.decreases-loop-length
decreases-loop-length l = l.length
