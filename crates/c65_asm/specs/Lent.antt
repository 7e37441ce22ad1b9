-- What lent bytes are.
use Rattle.std.specs.Prelude.{ℕ, List}
use Rattle.std.proofs.Common.{Bor}
use Rattle.c65_code.specs.declared.parts.RegSet.{RegSet}

abbrev pub parts : Bor (List ℕ) × Bor (List ℕ) → List ℕ × List ℕ
parts p = (p.0.now, p.1.now)

abbrev pub placed : Bor (List ℕ) × ℕ → List ℕ × ℕ
placed p = (p.0.now, p.1)

abbrev pub rest_of : RegSet × Bor (List ℕ) → RegSet × List ℕ
rest_of p = (p.0, p.1.now)
