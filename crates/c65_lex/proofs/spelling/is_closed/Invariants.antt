use Rattle.std.proofs.Common.{◌≡◌, length}
use Rattle.std.specs.Prelude.{false}
use Rattle.c65_lex.specs.Spellings
use Rattle.c65_lex.proofs.spelling.is_closed.Given as goal

abbrev pub invariant-loop-byte : goal.invariant-loop-byte
invariant-loop-byte l = Spellings.is_closed l.quote false l.taken l.rest ≡ Spellings.is_closed l.quote false false l.bytes

abbrev pub decreases-loop-byte : goal.decreases-loop-byte
decreases-loop-byte l = length l.rest
