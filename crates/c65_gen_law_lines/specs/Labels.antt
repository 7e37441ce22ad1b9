-- The labels among lines.
use Rattle.std.specs.Prelude.{◌≡◌, ℕ, ◌+◌, ◌==◌, ◌&&◌, ◌||◌, nat_le, nat_lt, if◌then◌else◌, Bool, IsTrue, List, [], ◌∷◌}
use Rattle.std.specs.List.{list_all}
use Rattle.c65_code.specs.declared.line.Line.{Line}
use Rattle.c65_code.specs.declared.line.Line.TheVariants.{Label}
use Rattle.c65_code.specs.Segments.{is_among, targets_of}
use Rattle.c65_genexpr.specs.declared.wanted.Wanted.{Wanted}
use Rattle.c65_genexpr.specs.declared.wanted.Wanted.TheVariants.{Value, Test}

-- how often a label stands among lines
abbrev pub times : ℕ → List Line → ℕ
times l [] = 0
times l (Label k ∷ lines) = (if k == l then 1 else 0) + times l lines
times l (_ ∷ lines) = times l lines

-- whether a label is one of so many, from the first on
abbrev pub is_within : ℕ → ℕ → ℕ → Bool
is_within first count l = nat_le first l && nat_lt l (first + count)

abbrev pub among : ℕ → ℕ → ℕ → ℕ
among first count l = if is_within first count l then 1 else 0

-- the label of a test, which lies outside
abbrev pub aims : Wanted → List ℕ
aims Value = []
aims (Test to s) = to ∷ []

-- a label of the range, or one of those outside it
abbrev pub may_lead : ℕ → ℕ → List ℕ → ℕ → Bool
may_lead first count outside l = is_within first count l || is_among outside l

-- the lines have these labels, each once, and no others; their branches and jumps lead to these, and to those outside
pub record OwnsLabels (first count : ℕ) (outside : List ℕ) (lines : List Line) : Type 0 where
  pub once : (l : ℕ) → times l lines ≡ among first count l
  pub targets : IsTrue (list_all (may_lead first count outside) (targets_of lines))
