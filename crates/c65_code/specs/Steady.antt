-- What a run keeps that stays within the stacks and the data (docs/MEANING.md, "Steady runs").
use Rattle.std.specs.Prelude.{◌≡◌, ℕ, ◌+◌, ◌<◌, ◌≤◌, ◌⊎◌, IsTrue, All, List, [], ◌∷◌, Option, Some, None, max, min}
use Rattle.c65_mach.specs.Step.{Kind, Stores, Changes, kind_of}
use Rattle.c65_base.specs.declared.library.Library.{Library}
use Rattle.c65_code.specs.declared.parts.RegSet.{RegSet}
use Rattle.c65_code.specs.declared.routine.Routine.TheVariants as routines
use Rattle.c65_code.specs.declared.line.Line.{Line}
use Rattle.c65_code.specs.Parts.{union_of, IsWithin as AreAmong}
use Rattle.c65_code.specs.Effects.{kept_at_calls, library_reads}
use Rattle.c65_code.specs.LineState.{State, sp_of, s_of, IsBytes}
use Rattle.c65_code.specs.Placement.{Placement, Setting, word_of, stack_start, stack_end}
use Rattle.c65_code.specs.Forms.{Form, Plain, Branch, Jump, Push, Depth, Pull, Return, Run, Enter, Through, form_of}
use Rattle.c65_code.specs.Rows.{Row, row_of}
use Rattle.c65_code.specs.Moves.{Ref, Given, ZeroAt, MemAt, ref_of, IsCallee}

-- what holds at every moment of such a run
pub record IsCalm (s : Setting) (t : State) : Type 0 where
  pub low : stack_start ≤ sp_of t
  pub high : sp_of t ≤ stack_end
  pub hard : 3 ≤ s_of t
  -- literals and const data are as placed
  pub constant : (b v : ℕ) → s.place.constant b ≡ Some v → t.mem b ≡ v
  pub bytes : IsBytes t

-- an address of data, or of the software stack at or above a bound
abbrev pub IsOpen : Placement → ℕ → ℕ → Type 0
IsOpen place bound b = IsTrue (place.is_data b) ⊎ ((bound ≤ b) × (b < stack_end))

-- whether an operation writes its operand
abbrev pub Writes : Kind → Type 0
Writes Stores = Unit {0}
Writes Changes = Unit {0}
Writes _ = ⊥

-- a line does not write the sp itself: only routines move it
abbrev pub IsAllowed : Placement → Kind → Ref → State → Type 0
IsAllowed place kind (Given v) t = Unit {0}
IsAllowed place kind (ZeroAt i) t = (i < 256) × (Writes kind → 2 ≤ i)
IsAllowed place kind (MemAt b) t = IsOpen place (sp_of t) b

-- What a routine reaches lies in data or in the software stack. For an address that is counted from the sp the bound is the
-- lower of the values of sp before and after, for another one the higher. 64 bytes of the software stack below the sp and 26
-- of the hard stack are there for it.
pub record HasRoom (place : Placement) (row : Row) (t : State) : Type 0 where
  pub ready : IsTrue row.ready
  pub soft : stack_start + 64 ≤ sp_of t
  pub hard : 3 + 26 ≤ s_of t
  pub near : All (IsOpen place (min (sp_of t) row.sp)) row.near
  pub far : All (IsOpen place (max (sp_of t) row.sp)) row.far

abbrev pub RowHasRoom : Placement → Option Row → State → Type 0
RowHasRoom place None t = ⊥
RowHasRoom place (Some row) t = HasRoom place row t

abbrev pub HasLines : List Line → Type 0
HasLines [] = ⊥
HasLines (l ∷ lines) = Unit {0}

-- A call goes to a function with lines, or to a routine of the library that has room and is passed what its row reads.
abbrev pub IsCallable : Setting → Option Library → ℕ → RegSet → State → Type 0
IsCallable s None f reads t = HasLines (s.lines f)
IsCallable s (Some library) f reads t = RowHasRoom s.place (row_of (routines.Library library) t) t × AreAmong (library_reads library) (union_of reads kept_at_calls)

-- what this line needs
abbrev pub IsWithin : Setting → Form → State → Type 0
IsWithin s (Plain op mode operand) t = IsAllowed s.place (kind_of op) (ref_of mode (word_of s.place operand) t) t
IsWithin s (Branch op l) t = Unit {0}
IsWithin s (Jump l) t = Unit {0}
IsWithin s Push t = Unit {0}
IsWithin s Depth t = Unit {0}
IsWithin s Pull t = (v : ℕ) × (rest : List ℕ) × (t.pushed ≡ v ∷ rest)
IsWithin s Return t = t.pushed ≡ []
IsWithin s (Run r) t = RowHasRoom s.place (row_of r t) t
IsWithin s (Enter f reads gives) t = IsCallable s (s.library f) f reads t
IsWithin s (Through reads gives) t = (f : ℕ) × IsCallee s t f × IsCallable s (s.library f) f reads t
IsWithin s _ t = ⊥

pub record IsSteady (s : Setting) (l : Line) (t : State) : Type 0 where
  pub calm : IsCalm s t
  pub within : IsWithin s (form_of l) t
