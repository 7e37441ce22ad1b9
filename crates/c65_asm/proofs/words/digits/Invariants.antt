use Rattle.std.proofs.Common.{◌≡◌, drop}
use Rattle.c65_asm.specs.Words.{with_digits}
use Rattle.c65_asm.proofs.words.digits.Given as goal

abbrev pub invariant-loop-byte : goal.invariant-loop-byte
invariant-loop-byte l = with_digits l.value (drop l.byte-index l.text) ≡ with_digits 0 l.text
