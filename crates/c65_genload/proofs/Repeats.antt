-- One round more.
use Rattle.std.proofs.Common.{◌≡◌, ℕ, ◌+◌, [], ◌∷◌, ◌++◌, replicate, sym}
use Rattle.std.proofs.lemmas.List.{replicate_more}
use Rattle.c65_code.specs.declared.line.Line.{Line}

pub replicate_next : (n : ℕ) (line : Line) → replicate (n + 1) line ≡ replicate n line ++ line ∷ []
replicate_next n line = sym (replicate_more n line)
