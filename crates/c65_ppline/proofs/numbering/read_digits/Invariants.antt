use Rattle.std.proofs.Common.{◌≡◌, ◌≤◌, drop}
use Rattle.c65_ppline.specs.NumberLines.{digits}
use Rattle.c65_ppline.proofs.numbering.read_digits.Given as goal

abbrev pub invariant-loop-byte : goal.invariant-loop-byte
invariant-loop-byte l = (l.value ≤ 32768) × (digits l.value (drop l.byte-index l.spelling) ≡ digits 0 l.spelling)
