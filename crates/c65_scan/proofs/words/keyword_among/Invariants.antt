use Rattle.std.proofs.Common.{◌≡◌, find, drop, bytes_eq}
use Rattle.c65_scan.specs.Words.{keyword_spelling}
use Rattle.c65_scan.proofs.words.keyword_among.Given as goal

abbrev pub invariant-loop-keyword : goal.invariant-loop-keyword
invariant-loop-keyword l = find (λ k. bytes_eq (keyword_spelling k) l.spelling) (drop l.keyword-index l.keywords) ≡ find (λ k. bytes_eq (keyword_spelling k) l.spelling) l.keywords
