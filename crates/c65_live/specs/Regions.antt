-- The region of lines that is swept anew where others stand in place of some; the sets outside of it stay.
use Rattle.std.specs.Prelude.{◌≡◌, ◌⊎◌, ℕ, ◌+◌, ◌<◌, ◌≤◌, List, length, map, get_or, Option, Some, slice_get}
use Rattle.c65_code.specs.declared.parts.RegSet.{RegSet}
use Rattle.c65_code.specs.declared.line.Line.{Line}
use Rattle.c65_code.specs.Parts.{no_parts}
use Rattle.c65_code.specs.Segments.{target_of}
use Rattle.c65_live.specs.Flows.{labelled_at, flows_of, joined_at}
use Rattle.c65_live.specs.Sweeps.{AreSound}

-- the line to which each line jumps or branches
abbrev pub place_of : List Line → Line → Option ℕ
place_of lines line = labelled_at lines (target_of line)

abbrev pub places_of : List Line → List (Option ℕ)
places_of lines = map (place_of lines) lines

-- no line from this one on jumps or branches to one before it
abbrev pub IsBarred : List (Option ℕ) → ℕ → Type 0
IsBarred places first = (q r : ℕ) → first ≤ q → slice_get places q ≡ Some (Some r) → first ≤ r

-- the places of a line that stays, among the old lines and among the new ones
pub data Stays (at count new : ℕ) : ℕ → ℕ → Type 0 where
  before : {q : ℕ} → q < at → Stays at count new q q
  past : (j : ℕ) → Stays at count new (at + count + j) (at + new + j)

-- the line at a new place stays, and its set is what it was
pub data IsSame (at count new : ℕ) (old live : List RegSet) (r : ℕ) : Type 0 where
  same : {q : ℕ} → Stays at count new q r → get_or live r no_parts ≡ get_or old q no_parts → IsSame at count new old live r

-- whatever comes behind the lines before this one, and is not one of them, stays with its set
pub record AreSame (at count new : ℕ) (old live : List RegSet) (places : List (Option ℕ)) (first : ℕ) : Type 0 where
  pub next : (first ≡ 0) ⊎ IsSame at count new old live first
  pub jumps : (q r : ℕ) → q < first → slice_get places q ≡ Some (Some r) → first ≤ r → IsSame at count new old live r

-- sets that have only what is live, and in which a sweep over the lines from one on up to another changes nothing
pub record IsSwept (lines : List Line) (out : RegSet) (live : List RegSet) (first end : ℕ) : Type 0 where
  pub long : length live ≡ length lines
  pub sound : AreSound lines out live
  pub closed : (q : ℕ) → first ≤ q → q < end → joined_at (flows_of lines out) live q ≡ get_or live q no_parts

-- the sets from a place on are those that stood behind the old lines
abbrev pub AreBehind : ℕ → ℕ → ℕ → List RegSet → List RegSet → ℕ → Type 0
AreBehind at count new old live end = (j : ℕ) → end ≤ at + new + j → get_or live (at + new + j) no_parts ≡ get_or old (at + count + j) no_parts
