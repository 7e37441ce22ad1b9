-- Where sp stands as the machine goes through lines (docs/MACHINE.md, "Calls").
use Rattle.std.specs.Prelude.{◌≡◌, ℕ, suc, ◌+◌, ◌^◌, ◌≤◌, Bool, Ok, Option, Some, None, List, [], ◌++◌, length, slice_get}
use Rattle.c65_csem.specs.declared.items.Parts.{Parts}
use Rattle.c65_csem.specs.Trees.{Stmt, UnitTy, FuncTy}
use Rattle.c65_csem.specs.Units.{IsBody}
use Rattle.c65_code.specs.declared.parts.RegSet.{RegSet}
use Rattle.c65_code.specs.declared.routine.Routine.TheVariants.{Library}
use Rattle.c65_code.specs.declared.line.Line.{Line}
use Rattle.c65_code.specs.Segments.{labels_of}
use Rattle.c65_code.specs.LineState.{Place, State, sp_of}
use Rattle.c65_code.specs.Placement.{Setting}
use Rattle.c65_code.specs.Forms.{Form, Run, IsLocal, form_of}
use Rattle.c65_code.specs.Moves.{Enters, Moves}
use Rattle.c65_code.specs.Steady.{IsSteady}
use Rattle.c65_genframe.specs.declared.modes.Modes.{Modes}
use Rattle.c65_genframe.specs.Frames.{Framed, frame_of}
use Rattle.c65_genentry.specs.Entry.{entry_code}
use Rattle.c65_genentry.specs.Ends.{end_code}
use Rattle.c65_genstmt.specs.Functions.{no_lines, with_function}
use Rattle.c65_gen_law_lines.specs.Stack.{Waiting, waiting_by, waits, bytes_in, statement_calls}
use Rattle.c65_gen_law_stack.specs.Passing.{Passes}
use Rattle.c65_gen_law_stack.specs.Calls.{pushed_bytes, passed_bytes, Holds}
use Rattle.c65_gen_law_stack.specs.Heights.{height_at, AreLevel}

abbrev pub sum_in : Option (List ℕ) → ℕ
sum_in None = 0
sum_in (Some values) = bytes_in values

-- how many bytes wait before the line with this number
abbrev pub waiting_at : Option Waiting → List Line → ℕ → ℕ
waiting_at w lines i = sum_in (height_at w lines i)

-- a line that leaves the active function active, and calls no function, of the library neither
abbrev pub IsOwn : Form → Type 0
IsOwn (Run (Library f)) = ⊥
IsOwn form = IsLocal form

-- from the line with this number among the middle ones, which stand behind so many others
pub record Goes (g before : ℕ) (middle : List Line) (w : Option Waiting) (j : ℕ) (t : State) (q : Place) (u : State) : Type 0 where
  -- the machine comes to one of them, or to the line behind them
  pub to : ℕ
  pub within : to ≤ length middle
  pub place : q ≡ (g, before + to)
  -- and sp lies so much lower there as more bytes wait
  pub sp : sp_of u + waiting_at w middle to ≡ sp_of t + waiting_at w middle j

-- so do level lines that stand in a function between lines without labels, at each move by which no function is called
abbrev pub MovesKeepHeights : Type 0
MovesKeepHeights = (s : Setting) (g j : ℕ) (before middle rest : List Line) (w : Option Waiting) (line : Line) (q : Place) (t u : State)
    → s.lines g ≡ before ++ (middle ++ rest) → labels_of before ≡ [] → labels_of rest ≡ [] → AreLevel w middle
    → slice_get middle j ≡ Some line → IsOwn (form_of line) → IsSteady s line t → Moves s line (g, length before + j) t q u
    → Goes g (length before) middle w j t q u

abbrev pub at_first : Framed → Stmt → Option Waiting
at_first f body = Some (waiting_by [] (statement_calls f body))

-- and those of a well typed function between its entry and its end, where nothing waits at first and at last
abbrev pub FunctionsKeepHeights : Type 0
FunctionsKeepHeights = (u : UnitTy) (g : FuncTy) (body : Stmt) (f : Framed) (is_main : Bool) (out : RegSet) (s : Setting) (n : ℕ)
    → IsBody u g body → (with_function f is_main (Some body) (no_lines out)).labels ≤ 2 ^ 32 → s.lines n ≡ (with_function f is_main (Some body) (no_lines out)).lines
    → (middle : List Line) × (s.lines n ≡ entry_code f ++ (middle ++ end_code f)) × (waits (at_first f body) middle ≡ Some (waiting_by [] []))
    × ((j : ℕ) (line : Line) (q : Place) (t v : State) → slice_get middle j ≡ Some line → IsOwn (form_of line) → IsSteady s line t → Moves s line (n, length (entry_code f) + j) t q v → Goes n (length (entry_code f)) middle (at_first f body) j t q v)

-- So does a call of a function, from the calling line to the line behind it, where the call takes away what the function takes, and the
-- body of the function leaves sp and what its entry put away as they were.
abbrev pub CallsKeepHeights : Type 0
CallsKeepHeights = (s : Setting) (g j n : ℕ) (reads gives : RegSet) (before middle rest : List Line) (w : Option Waiting) (parts : Parts) (modes : Modes) (called : FuncTy) (f : Framed) (q r o back : Place) (a t u v x : State)
    → s.lines g ≡ before ++ (middle ++ rest) → labels_of rest ≡ [] → suc j ≤ length middle
    → frame_of parts modes called ≡ Ok f → waiting_at w middle j + pushed_bytes f.last ≡ waiting_at w middle (suc j) + passed_bytes f t
    → Enters s n reads gives (g, length before + j) a q t → Passes s (entry_code f) q t r u → Holds f u v → Passes s (end_code f) o v back x
    → Goes g (length before) middle w j a back x
