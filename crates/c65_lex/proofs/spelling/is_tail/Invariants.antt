use Rattle.std.proofs.Common.{◌≡◌, length}
use Rattle.c65_lex.specs.Spellings
use Rattle.c65_lex.proofs.spelling.is_tail.Given as goal

abbrev pub invariant-loop-byte : goal.invariant-loop-byte
invariant-loop-byte l = Spellings.is_tail l.before l.rest ≡ Spellings.is_tail l.first l.bytes

abbrev pub decreases-loop-byte : goal.decreases-loop-byte
decreases-loop-byte l = length l.rest
