-- Laws of the machine on lines.
use Rattle.std.specs.Prelude.{◌≡◌, ℕ, ◌+◌, ◌<◌, ◌≤◌, true, false, List, Some, None}
use Rattle.c65_base.specs.declared.library.Library.TheVariants.{Strcpy}
use Rattle.c65_code.specs.declared.parts.Part.TheVariants.{A, Y}
use Rattle.c65_code.specs.declared.parts.RegSet.{RegSet}
use Rattle.c65_code.specs.declared.routine.Routine.TheVariants as routines
use Rattle.c65_code.specs.declared.line.Sym.{Sym}
use Rattle.c65_code.specs.declared.line.Callee.TheVariants.{Function}
use Rattle.c65_code.specs.declared.line.Line.{Line}
use Rattle.c65_code.specs.declared.line.Line.TheVariants.{Call}
use Rattle.c65_code.specs.Parts.{has_part}
use Rattle.c65_code.specs.LineState.{Place, State, word_at, sp_of, ax_of, IsBytes}
use Rattle.c65_code.specs.Placement.{Setting, word_of}
use Rattle.c65_code.specs.Texts.{copied}
use Rattle.c65_code.specs.Rows.{Row, Meets, row_of}
use Rattle.c65_code.specs.Forms.{Form, Plain, Run, Enter, Through, form_of}
use Rattle.c65_code.specs.Moves.{Ref, Given, ref_of, IsCallee, Moves}
use Rattle.c65_code.specs.Steady.{IsSteady}
use Rattle.c65_code.specs.Runs.{IsSteadyFor}
use Rattle.c65_code.specs.RawMachine.{RawSetting, RawMoves, HasDone}

-- a line that is no call of a routine, under its own or a function's name
abbrev pub IsOwn : Setting → Form → State → Type 0
IsOwn s (Run r) t = ⊥
IsOwn s (Enter f reads gives) t = s.library f ≡ None
IsOwn s (Through reads gives) t = (f : ℕ) → IsCallee s t f → s.library f ≡ None
IsOwn s _ t = Unit {0}

abbrev pub given_of : Setting → Form → State → Ref
given_of s (Plain op mode operand) t = ref_of mode (word_of s.place operand) t
given_of s _ t = Given 0

-- an immediate operand is a byte
abbrev pub IsGivenByte : Ref → Type 0
IsGivenByte (Given v) = v < 256
IsGivenByte _ = Unit {0}

-- where a steady run stands at a line that is no call of a routine, there is a move
abbrev pub NeverSticks : Type 0
NeverSticks = (s : Setting) (l : Line) (p : Place) (t : State)
    → IsOwn s (form_of l) t → IsGivenByte (given_of s (form_of l) t)
    → IsSteady s l t → t.ended ≡ None
    → (q : Place) × (u : State) × Moves s l p t q u

-- a steady run weighs at least as much as it has moves
abbrev pub RunsWeigh : Type 0
RunsWeigh = (s : Setting) (moves weight : ℕ) (p : Place) (t : State) (run : List (Place × State)) → IsSteadyFor s moves weight p t run → moves ≤ weight

abbrev pub with_a : ℕ → State → State
with_a v t = record t { regs = record t.regs { a = v } }

abbrev pub with_y : ℕ → State → State
with_y v t = record t { regs = record t.regs { y = v } }

-- where a row may change A and gives it no value, A may be anything after it
abbrev pub LeavesAOpen : Type 0
LeavesAOpen = (row : Row) (t u : State) (v : ℕ) → row.a ≡ None → has_part row.changes A ≡ true → Meets row t u → Meets row t (with_a v u)

-- where a call does not pass Y, Y may be anything at the callee's first line
abbrev pub CallsLeaveYOpen : Type 0
CallsLeaveYOpen = (s : Setting) (f : Sym) (reads gives : RegSet) (p q : Place) (t u : State) (v : ℕ)
    → s.library f.0 ≡ None → has_part reads Y ≡ false → v < 256
    → Moves s (Call (Function f reads gives)) p t q u → Moves s (Call (Function f reads gives)) p t q (with_y v u)

-- `strcpy` from a text to the byte behind its first never finds the end: each byte is read after it was written over.
abbrev pub UpwardCopiesGoOn : Type 0
UpwardCopiesGoOn = (t : State) (row : Row) (count : ℕ) → row_of (routines.Library Strcpy) t ≡ Some row
    → word_at t.mem (sp_of t) ≡ ax_of t + 1 → 0 < t.mem (ax_of t) → count ≡ 65536 + 1
    → row.writes ≡ copied count (ax_of t + 1) (ax_of t) t.mem

-- whatever has moved on the raw machine, a hook included, left bytes, and so has each routine that came back
abbrev pub RawStatesAreBytes : Type 0
RawStatesAreBytes = (s : RawSetting) (l : Line) (p : Place) (t : State) (q : Place) (u : State) → RawMoves s l p t q u → IsBytes u

abbrev pub RoutinesLeaveBytes : Type 0
RoutinesLeaveBytes = (row : Row) (back : Place) (t : State) (p : Place) (u : State) → HasDone None row back t p u → IsBytes u
