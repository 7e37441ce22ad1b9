-- What is known before a line is so wherever a run comes to it.
use Rattle.std.specs.Prelude.{◌≡◌, ℕ, suc, ◌≤◌, IsTrue, List, [], ◌∷◌, Some, None, slice_get}
use Rattle.std.specs.List.{list_all}
use Rattle.c65_code.specs.declared.line.Line.{Line}
use Rattle.c65_code.specs.Comes.{first_place}
use Rattle.c65_code.specs.Forms.{Form, Enter, Through, IsLocal, form_of}
use Rattle.c65_code.specs.LineState.{Place, State, IsBytes}
use Rattle.c65_code.specs.Moves.{labelled, settle, next, Does}
use Rattle.c65_code.specs.Placement.{Placement, Setting}
use Rattle.c65_code.specs.Runs.{IsRun, moment}
use Rattle.c65_code.specs.Segments.{is_fit, target_of}
use Rattle.c65_know.specs.Known.{known_of}
use Rattle.c65_know_law.specs.Truth.{IsTrueOf}

-- Lines that may stand in a segment.
abbrev pub AreFit : List Line → Type 0
AreFit lines = IsTrue (list_all is_fit lines)

-- a call of a function, by its name or through a pointer
abbrev pub IsCall : Form → Type 0
IsCall (Enter f reads gives) = Unit {0}
IsCall (Through reads gives) = Unit {0}
IsCall _ = ⊥

-- what the note before a line says holds while the run has not ended
abbrev pub Knows : List Line → ℕ → State → Type 0
Knows lines q t = t.ended ≡ None → IsTrueOf (slice_get (known_of lines) q) t

-- What is said before each line of a function is so at its entry and behind each call, whatever the state; a line hands it on
-- to the next one; and where a line goes back to a label, it says nothing there.
pub record IsHandedOn (place : Placement) (lines : List Line) (known : ℕ → State → Type 0) : Type 0 where
  pub entry : (t : State) → known (settle lines 0) t
  pub behind_call : (q : ℕ) (l : Line) (t : State) → slice_get lines q ≡ Some l → IsCall (form_of l) → known (settle lines (suc q)) t
  pub line : (q : ℕ) (l : Line) (t u : State) → slice_get lines q ≡ Some l → IsLocal (form_of l) → IsBytes t → t.ended ≡ None → Does place (form_of l) t u
      → known q t → known (next lines (form_of l) q t.regs) u
  pub back : (q k : ℕ) (l : Line) (u : State) → slice_get lines q ≡ Some l → target_of l ≡ k ∷ [] → settle lines (labelled lines k) ≤ q → known (settle lines (labelled lines k)) u

abbrev pub NotesAreHandedOn : Type 0
NotesAreHandedOn = (place : Placement) (lines : List Line) → AreFit lines → IsHandedOn place lines (Knows lines)

-- what the note before the line at a place says of a state there
abbrev pub IsKnownAt : Setting → Place × State → Type 0
IsKnownAt s m = Knows (s.lines m.0.0) m.0.1 m.1

-- at each moment of a run from the first line of a function that no other one has called
abbrev pub NotesAreTrue : Type 0
NotesAreTrue = (s : Setting) (main : ℕ) (t : State) (run : List (Place × State)) (k : ℕ) → ((f : ℕ) → AreFit (s.lines f)) → IsBytes t → t.frames ≡ []
    → IsRun s (first_place s main) t run → IsKnownAt s (moment k (first_place s main) t run)
