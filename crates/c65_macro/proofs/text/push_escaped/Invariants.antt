use Rattle.std.proofs.Common.{◌≡◌, ◌++◌, length}
use Rattle.c65_macro.specs.Fill.{escaped}
use Rattle.c65_macro.proofs.text.push_escaped.Given as goal

abbrev pub invariant-loop-byte : goal.invariant-loop-byte
invariant-loop-byte l = l.text.items ++ escaped l.rest ≡ l.fn.text.items ++ escaped l.bytes

abbrev pub decreases-loop-byte : goal.decreases-loop-byte
decreases-loop-byte l = length l.rest
