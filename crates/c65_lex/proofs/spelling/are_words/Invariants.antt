use Rattle.std.proofs.Common.{◌≡◌, length}
use Rattle.c65_lex.specs.Spellings
use Rattle.c65_lex.proofs.spelling.are_words.Given as goal

abbrev pub invariant-loop-byte : goal.invariant-loop-byte
invariant-loop-byte l = Spellings.are_all Spellings.is_word l.rest ≡ Spellings.are_all Spellings.is_word l.bytes

abbrev pub decreases-loop-byte : goal.decreases-loop-byte
decreases-loop-byte l = length l.rest
