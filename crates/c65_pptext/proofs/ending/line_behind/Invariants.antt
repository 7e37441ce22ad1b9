use Rattle.std.proofs.Common.{◌≡◌, length}
use Rattle.c65_pptext.specs.Kept.{line_behind}
use Rattle.c65_pptext.proofs.ending.line_behind.Given as goal

abbrev pub invariant-loop-byte : goal.invariant-loop-byte
invariant-loop-byte l = line_behind l.here l.rest ≡ line_behind l.fn.line l.fn.bytes

abbrev pub decreases-loop-byte : goal.decreases-loop-byte
decreases-loop-byte l = length l.rest
