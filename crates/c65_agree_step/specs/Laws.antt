-- How ways are put together: one behind another, and a line before a way. What a line leaves open may be anything.
use Rattle.std.specs.Prelude.{◌≡◌, ℕ, suc, ◌+◌, ◌<◌, ◌≤◌, Bool, IsTrue, if◌then◌else◌, List, [], ◌∷◌, Some, None, slice_get}
use Rattle.c65_base.specs.declared.library.Library.{Library}
use Rattle.c65_mach.specs.declared.rows.Op.{Op}
use Rattle.c65_mach.specs.declared.rows.Mode.{Mode}
use Rattle.c65_mach.specs.Step.{with_a, is_taken, kind_of}
use Rattle.c65_code.specs.declared.parts.Part.TheVariants.{A}
use Rattle.c65_code.specs.declared.parts.RegSet.{RegSet}
use Rattle.c65_code.specs.declared.routine.Routine.{Routine}
use Rattle.c65_code.specs.declared.routine.Routine.TheVariants as routines
use Rattle.c65_code.specs.declared.line.Operand.{Operand}
use Rattle.c65_code.specs.declared.line.Line.TheVariants.{Label}
use Rattle.c65_code.specs.Parts.{has_part, union_of}
use Rattle.c65_code.specs.Effects.{kept_at_calls, ptr4_bytes}
use Rattle.c65_code.specs.LineState.{Place, State, Frame, IsBytes}
use Rattle.c65_code.specs.Placement.{Setting, word_of}
use Rattle.c65_code.specs.Forms.{Plain, Branch, Jump, Push, Pull, Return, Run, Enter, Through}
use Rattle.c65_code.specs.Rows.{row_of}
use Rattle.c65_code.specs.Moves.{ref_of, effect, labelled, MeetsRow, Keeps, Enters, IsCallee, common_of}
use Rattle.c65_code.specs.Weights.{row_cost}
use Rattle.c65_code.specs.LineLaws.{IsGivenByte}
use Rattle.c65_code.specs.Comes.{Seen, Comes}
use Rattle.c65_agree_step.specs.Ways.{Moment, place_at, GoesOn, IsAtLine}

-- ---- ways

abbrev pub WaysWeaken : Moment → Type 0
WaysWeaken Q = (s : Setting) (w v : ℕ) (p : Place) (t : State) (seen : Seen) → w ≤ v → Comes s Q w p t seen → Comes s Q v p t seen

-- one way behind another
abbrev pub WaysJoin : Moment → Moment → Type 0
WaysJoin Q R = (s : Setting) (w v : ℕ) (p : Place) (t : State) (seen : Seen) → Comes s Q w p t seen
    → ((q : Place) (u : State) (later : Seen) → Q q u later → Comes s R v q u later) → Comes s R (w + v) p t seen

abbrev pub LabelsArePassed : Type 0
LabelsArePassed = (s : Setting) (f p l : ℕ) → slice_get (s.lines f) p ≡ Some (Label l) → place_at s f p ≡ place_at s f (suc p)

-- ---- lines within a function

abbrev pub after_operation : Setting → Op → Mode → Operand → State → State
after_operation s op mode operand t = effect (kind_of op) op mode (word_of s.place operand) t

abbrev pub OperationsGo : Moment → Type 0
OperationsGo Q = (s : Setting) (w f p : ℕ) (t : State) (seen : Seen) (op : Op) (mode : Mode) (operand : Operand)
    → IsAtLine s f p t (Plain op mode operand) → IsGivenByte (ref_of mode (word_of s.place operand) t)
    → (IsBytes (after_operation s op mode operand t) → GoesOn s Q w (place_at s f (suc p)) (after_operation s op mode operand t) seen)
    → Comes s Q (1 + w) (place_at s f p) t seen

-- the way goes on, by whether the branch is taken
abbrev pub BranchesGo : Moment → Type 0
BranchesGo Q = (s : Setting) (w f p l : ℕ) (t : State) (seen : Seen) (op : Op) (taken : Bool)
    → IsAtLine s f p t (Branch op l) → is_taken op t.regs ≡ taken
    → GoesOn s Q w (place_at s f (if taken then labelled (s.lines f) l else suc p)) t seen
    → Comes s Q (2 + w) (place_at s f p) t seen

abbrev pub JumpsGo : Moment → Type 0
JumpsGo Q = (s : Setting) (w f p l : ℕ) (t : State) (seen : Seen)
    → IsAtLine s f p t (Jump l) → GoesOn s Q w (place_at s f (labelled (s.lines f) l)) t seen → Comes s Q (1 + w) (place_at s f p) t seen

abbrev pub pushing : State → State
pushing t = record t { pushed = t.regs.a ∷ t.pushed }

abbrev pub PushesGo : Moment → Type 0
PushesGo Q = (s : Setting) (w f p : ℕ) (t : State) (seen : Seen)
    → IsAtLine s f p t Push → (IsBytes (pushing t) → GoesOn s Q w (place_at s f (suc p)) (pushing t) seen) → Comes s Q (1 + w) (place_at s f p) t seen

abbrev pub pulling : ℕ → List ℕ → State → State
pulling v rest t = record t { regs = with_a v t.regs; pushed = rest }

abbrev pub PullsGo : Moment → Type 0
PullsGo Q = (s : Setting) (w f p v : ℕ) (rest : List ℕ) (t : State) (seen : Seen)
    → IsAtLine s f p t Pull → t.pushed ≡ v ∷ rest → (IsBytes (pulling v rest t) → GoesOn s Q w (place_at s f (suc p)) (pulling v rest t) seen)
    → Comes s Q (1 + w) (place_at s f p) t seen

abbrev pub RoutinesGo : Moment → Type 0
RoutinesGo Q = (s : Setting) (w f p : ℕ) (t : State) (seen : Seen) (r : Routine)
    → IsAtLine s f p t (Run r) → ((u : State) → MeetsRow (row_of r t) t u → IsBytes u → GoesOn s Q w (place_at s f (suc p)) u seen)
    → Comes s Q (row_cost (row_of r t) + w) (place_at s f p) t seen

-- ---- calls

-- a function with lines is entered at its first one
abbrev pub CallsEnter : Moment → Type 0
CallsEnter Q = (s : Setting) (w f p g : ℕ) (t : State) (seen : Seen) (reads gives : RegSet)
    → IsAtLine s f p t (Enter g reads gives) → s.library g ≡ None
    → ((u : State) → Enters s g reads gives (f, p) t (place_at s g 0) u → IsBytes u → GoesOn s Q w (place_at s g 0) u seen)
    → Comes s Q (8 + w) (place_at s f p) t seen

abbrev pub LibraryCallsGo : Moment → Type 0
LibraryCallsGo Q = (s : Setting) (w f p g : ℕ) (t : State) (seen : Seen) (reads gives : RegSet) (library : Library)
    → IsAtLine s f p t (Enter g reads gives) → s.library g ≡ Some library
    → ((u : State) → MeetsRow (row_of (routines.Library library) t) t u → IsBytes u → GoesOn s Q w (place_at s f (suc p)) u seen)
    → Comes s Q (8 + row_cost (row_of (routines.Library library) t) + w) (place_at s f p) t seen

-- through a pointer, where one function alone stands at the address
abbrev pub PointerCallsEnter : Moment → Type 0
PointerCallsEnter Q = (s : Setting) (w f p g : ℕ) (t : State) (seen : Seen) (reads gives : RegSet)
    → IsAtLine s f p t (Through reads gives) → s.library g ≡ None → ((h : ℕ) → IsCallee s t h → h ≡ g)
    → ((u : State) → Enters s g (union_of reads ptr4_bytes) gives (f, p) t (place_at s g 0) u → IsBytes u → GoesOn s Q w (place_at s g 0) u seen)
    → Comes s Q (8 + w) (place_at s f p) t seen

-- behind the call, with what the call and the function both give
pub record IsBack (s : Setting) (f : ℕ) (frame : Frame) (frames : List Frame) (t u : State) : Type 0 where
  pub keeps : Keeps (union_of (common_of frame.gives (s.gives f)) kept_at_calls) t u
  pub pushed : u.pushed ≡ frame.pushed
  pub behind : u.frames ≡ frames

abbrev pub ReturnsGo : Moment → Type 0
ReturnsGo Q = (s : Setting) (w f p : ℕ) (t : State) (seen : Seen) (frame : Frame) (frames : List Frame)
    → IsAtLine s f p t Return → t.frames ≡ frame ∷ frames → ((u : State) → IsBack s f frame frames t u → IsBytes u → GoesOn s Q w frame.back u seen)
    → Comes s Q (1 + w) (place_at s f p) t seen

abbrev pub ending : ℕ → State → State
ending v t = record t { ended = Some v }

-- the return of main ends the run
abbrev pub MainEnds : Moment → Type 0
MainEnds Q = (s : Setting) (w f p : ℕ) (t : State) (seen : Seen)
    → IsAtLine s f p t Return → t.frames ≡ []
    → ((v : ℕ) → (IsTrue (has_part (s.gives f) A) → v ≡ t.regs.a) → v < 256 → GoesOn s Q w (f, p) (ending v t) seen)
    → Comes s Q (1 + w) (place_at s f p) t seen
