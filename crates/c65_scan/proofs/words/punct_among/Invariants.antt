use Rattle.std.proofs.Common.{◌≡◌, find, drop, bytes_eq}
use Rattle.c65_scan.specs.Words.{punct_spelling}
use Rattle.c65_scan.proofs.words.punct_among.Given as goal

abbrev pub invariant-loop-punct : goal.invariant-loop-punct
invariant-loop-punct l = find (λ k. bytes_eq (punct_spelling k) l.spelling) (drop l.punct-index l.puncts) ≡ find (λ k. bytes_eq (punct_spelling k) l.spelling) l.puncts
