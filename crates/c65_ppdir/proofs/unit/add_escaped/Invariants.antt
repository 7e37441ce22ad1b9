use Rattle.std.proofs.Common.{◌≡◌, ◌++◌, length}
use Rattle.c65_ppdir.specs.Standing.{escaped}
use Rattle.c65_ppdir.proofs.unit.add_escaped.Given as goal

abbrev pub invariant-loop-byte : goal.invariant-loop-byte
invariant-loop-byte l = l.literal.items ++ escaped l.rest ≡ l.fn.literal.items ++ escaped l.path

abbrev pub decreases-loop-byte : goal.decreases-loop-byte
decreases-loop-byte l = length l.rest
