-- When the lines of a function may stand for others, in whatever code the function is (docs/MEANING.md, "Following").
use Rattle.std.specs.Prelude.{◌≡◌, ℕ, ◌+◌, ◌<◌, ◌==◌, IsTrue, if◌then◌else◌, List, Some, slice_get}
use Rattle.c65_code.specs.declared.parts.RegSet.{RegSet}
use Rattle.c65_code.specs.declared.line.Sym.{Sym}
use Rattle.c65_code.specs.declared.line.Line.{Line}
use Rattle.c65_code.specs.Placement.{Placement, Setting, stack_start}
use Rattle.c65_code.specs.Follows.{Follows}

-- a setting with these lines for one function
abbrev pub with_lines : Setting → ℕ → List Line → Setting
with_lines s f lines = record s { lines = λ g. if g == f then lines else s.lines g }

-- each byte of a literal stays as it is at its address
abbrev pub HasLiterals : List (Sym × List ℕ) → Placement → Type 0
HasLiterals literals place = (i k v : ℕ) (literal : Sym × List ℕ)
    → slice_get literals i ≡ Some literal → slice_get literal.1 k ≡ Some v → place.constant (place.address literal.0.0 + k) ≡ Some v

-- What new lines of a function may rest on, and each code with these literals has at its placements: what the function gives,
-- and that data and their constant bytes lie below the software stack.
pub record IsApt (literals : List (Sym × List ℕ)) (f : ℕ) (out : RegSet) (s : Setting) : Type 0 where
  pub gives : s.gives f ≡ out
  pub data_below : (b : ℕ) → IsTrue (s.place.is_data b) → b < stack_start
  pub constant_below : (b v : ℕ) → s.place.constant b ≡ Some v → b < stack_start
  pub literal_bytes : HasLiterals literals s.place

-- a map of the lines of one function
abbrev pub mapped_in : ℕ → (ℕ → ℕ) → ℕ → ℕ → ℕ
mapped_in f map g p = if g == f then map p else p

-- the new lines of a function may stand for the old ones wherever the function gives `out` and the literals are these
pub record IsFollowed (literals : List (Sym × List ℕ)) (out : RegSet) (old new : List Line) : Type 0 where
  pub map : ℕ → ℕ
  pub more : ℕ
  pub by : (s : Setting) (f main : ℕ) → IsApt literals f out s → Follows (mapped_in f map) more (with_lines s f old) (with_lines s f new) main
