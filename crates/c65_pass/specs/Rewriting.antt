-- Lines that stand for others, and what each rewriting keeps.
use Rattle.std.specs.Prelude.{◌≡◌, ◌⊎◌, ℕ, ◌+◌, ◌*◌, ◌<◌, ◌≤◌, All, List, length}
use Rattle.c65_code.specs.declared.line.Line.{Line}
use Rattle.c65_code.specs.Segments.{IsSegment, replaced}
use Rattle.c65_code.specs.Weights.{lines_size}
use Rattle.c65_code.specs.Writable.{IsLineWritable}
use Rattle.c65_pass.specs.Labels.{chained}

-- so many lines from a place on, and those that are to stand for them
pub record Rewriting : Type 0 where
  pub at : ℕ
  pub count : ℕ
  pub lines : List Line

-- the lines after a rewriting
abbrev pub rewritten : List Line → Rewriting → List Line
rewritten lines w = replaced lines w.at w.count w.lines

-- A byte weighs as much as eight lines: no rule that saves a byte adds more than seven lines.
abbrev pub bulk : List Line → ℕ
bulk lines = 8 * lines_size lines + length lines

-- what each rule lowers: the bulk, or else the jumps and branches that go to a JMP
abbrev pub IsLower : List Line → List Line → Type 0
IsLower new old = (bulk new < bulk old) ⊎ ((bulk new ≡ bulk old) × (chained new < chained old))

-- what a rewriting keeps of the lines of a segment
pub record Keeps (lines : List Line) (w : Rewriting) : Type 0 where
  pub within : w.at + w.count ≤ length lines
  pub segment : IsSegment (rewritten lines w)
  pub size : lines_size (rewritten lines w) ≤ lines_size lines
  pub lower : IsLower (rewritten lines w) lines
  pub writable : (n : ℕ) → All (IsLineWritable n) lines → All (IsLineWritable n) (rewritten lines w)
