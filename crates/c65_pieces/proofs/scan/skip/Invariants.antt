use Rattle.std.proofs.Common.{◌≡◌, ◌++◌, ℕ, length}
use Rattle.std.specs.Prelude.{nat_lt}
use Rattle.c65_pieces.specs.Settled.{ahead}
use Rattle.c65_lex.specs.Blanks.{Blanks}
use Rattle.c65_pieces.specs.Scanned.{opening}
use Rattle.c65_pieces.proofs.scan.skip.Given as goal

abbrev pub invariant-loop-rest : goal.invariant-loop-rest
invariant-loop-rest l = (n : ℕ) × Blanks n (opening l.fn.comment ++ ahead l.lines l.fn.from) (ahead l.lines l.place) × (l.space ≡ nat_lt 0 n)

abbrev pub decreases-loop-rest : goal.decreases-loop-rest
decreases-loop-rest l = length (ahead l.lines l.place)
