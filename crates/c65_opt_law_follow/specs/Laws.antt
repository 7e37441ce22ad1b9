-- New lines that are justified are followed, wherever they stand in a function.
use Rattle.std.specs.Prelude.{◌≡◌, ℕ, ◌+◌, ◌<◌, ◌≤◌, IsTrue, List, [], ◌∷◌, Option, Some, None, length, slice_get, take, drop}
use Rattle.c65_code.specs.declared.line.Line.{Line}
use Rattle.c65_code.specs.declared.parts.Part.{Part}
use Rattle.c65_code.specs.declared.parts.RegSet.{RegSet}
use Rattle.c65_code.specs.Follows.{Follows}
use Rattle.c65_code.specs.LineState.{State}
use Rattle.c65_code.specs.Moves.{labelled, settle}
use Rattle.c65_code.specs.Parts.{no_parts}
use Rattle.c65_code.specs.Placement.{Setting}
use Rattle.c65_code.specs.Rewriting.{with_lines, mapped_in}
use Rattle.c65_code.specs.Segments.{replaced}
use Rattle.c65_know_law.specs.Laws.{AreFit, Knows}
use Rattle.c65_live.specs.Tables.{Table, IsLiveTable, live_after}
use Rattle.c65_opt_law_near.specs.Laws.{IsLow}
use Rattle.c65_opt_law_near.specs.Near.{before}
use Rattle.c65_opt_law_straight.specs.Laws.{IsByteLine}
use Rattle.c65_opt_law_follow.specs.Windows.{WayOut, Behind, ToLabel, AreInner, Justified}

-- lines that may stand in a segment, whose numbers are bytes
abbrev pub AreByteLines : List Line → Type 0
AreByteLines [] = Unit {0}
AreByteLines (line ∷ lines) = IsByteLine line × AreByteLines lines

pub record IsSound (lines : List Line) : Type 0 where
  pub fit : AreFit lines
  pub bytes : AreByteLines lines

-- What each code has at its placements: what this function gives, data below the software stack, an address of its own for each
-- function, and lines that may stand there.
pub record IsApt (f : ℕ) (out : RegSet) (s : Setting) : Type 0 where
  pub gives : s.gives f ≡ out
  pub low : IsLow s.place
  pub own : (g h : ℕ) → IsTrue (s.is_function g) → IsTrue (s.is_function h) → s.place.address g ≡ s.place.address h → g ≡ h
  pub sound : (g : ℕ) → IsSound (s.lines g)

-- the place at which lines that end before a place are left
abbrev pub exit_place : List Line → ℕ → WayOut → ℕ
exit_place lines end Behind = settle lines end
exit_place lines end (ToLabel label) = settle lines (labelled lines label)

-- what is live before the line at a place, by what is live after each line
abbrev pub live_at : RegSet → Option Line → RegSet → RegSet
live_at out None after = no_parts
live_at out (Some line) after = before out line after

abbrev pub before_place : RegSet → List Line → (ℕ → RegSet) → ℕ → RegSet
before_place out lines live q = live_at out (slice_get lines q) (live q)

-- the lines of a function that stand at a place
abbrev pub window : List Line → ℕ → ℕ → List Line
window lines at count = take count (drop at lines)

-- Where new lines are justified for those of a function at a place, by what is live behind these and by what the note before them
-- says, a code with the new lines in their place follows the old code. One map of places serves in all codes.
abbrev pub JustifiedFollow : Type 0
JustifiedFollow = (f main : ℕ) (out : RegSet) (lines : List Line) (table : Table) (at count : ℕ) (new : List Line)
    → IsLiveTable lines out table → at + count ≤ length lines → 1 ≤ count → AreInner (window lines at count)
    → IsSound new → AreInner new → 1 ≤ length (replaced lines at count new)
    → (map : ℕ → ℕ) × ((s : Setting) → IsApt f out (with_lines s f lines)
    → Justified (with_lines s f lines) (exit_place lines (at + count)) (λ exit. before_place out lines (live_after table) (exit_place lines (at + count) exit)) (Knows lines at) (window lines at count) new
    → Follows (mapped_in f map) 0 (with_lines s f lines) (with_lines s f (replaced lines at count new)) main)

-- Where a code follows a second one, which follows a third, it follows the third: the maps one behind the other, and the weights added.
abbrev pub FollowingComposes : Type 0
FollowingComposes = (first second : ℕ → ℕ → ℕ) (more rest : ℕ) (a b c : Setting) (main : ℕ) → Follows first more a b main → Follows second rest b c main → Follows (λ f p. second f (first f p)) (more + rest) a c main
