-- Lines that are done one behind the other, and what stays the same where others stand for them.
use Rattle.std.specs.Prelude.{◌≡◌, ℕ, ◌+◌, ◌-◌, IsTrue, List, [], ◌∷◌, Option, Some, None, take, drop, slice_get}
use Rattle.c65_code.specs.declared.line.Line.{Line}
use Rattle.c65_code.specs.declared.line.Sym.{Sym}
use Rattle.c65_code.specs.declared.parts.Part.{Part}
use Rattle.c65_code.specs.declared.parts.RegSet.{RegSet}
use Rattle.c65_code.specs.Forms.{Form, Plain, Push, Pull, Depth, Run, form_of}
use Rattle.c65_code.specs.LineState.{State, Same, IsBytes}
use Rattle.c65_code.specs.Moves.{Does}
use Rattle.c65_code.specs.Parts.{has_part}
use Rattle.c65_code.specs.Placement.{Setting}
use Rattle.c65_code.specs.Steady.{IsSteady}
use Rattle.c65_know.specs.Known.{Annotated}
use Rattle.c65_know_law.specs.Truth.{IsTrueOf}
use Rattle.c65_live.specs.Tables.{Table, live_after}
use Rattle.c65_pass.specs.Rewriting.{Rewriting}
use Rattle.c65_pass.specs.Rules.{match_at}

-- lines behind which the next one comes, whatever the state
abbrev pub GoesOn : Form → Type 0
GoesOn (Plain op mode operand) = Unit {0}
GoesOn Push = Unit {0}
GoesOn Pull = Unit {0}
GoesOn Depth = Unit {0}
GoesOn (Run r) = Unit {0}
GoesOn _ = ⊥

-- a move by such a line, in a run that is steady there
pub record Steps (s : Setting) (line : Line) (t u : State) : Type 0 where
  pub onward : GoesOn (form_of line)
  pub running : t.ended ≡ None
  pub steady : IsSteady s line t
  pub does : Does s.place (form_of line) t u
  pub bytes : IsBytes u

-- from one state to another by all of these lines
pub data Straight (s : Setting) : List Line → State → State → Type 0 where
  done : {t : State} → Straight s [] t t
  by : {line : Line} {lines : List Line} {t u v : State} → Steps s line t u → Straight s lines u v → Straight s (line ∷ lines) t v

-- two states with the same value of each of these parts, which differ in registers and flags at most
pub record Agree (live : RegSet) (u v : State) : Type 0 where
  pub part : (p : Part) → IsTrue (has_part live p) → Same p u v
  pub rest : record u { regs = v.regs } ≡ v

-- Where a rule matches, in a state of which the note there is true, its lines do as much as those that stood there: they
-- lead on too, and to a state in which all that is live behind them is the same.
abbrev pub IsKept : ℕ → Type 0
IsKept rule = (s : Setting) (literals : List (Sym × List ℕ)) (noted : Annotated) (table : Table) (at : ℕ) (w : Rewriting) (t u : State)
    → match_at rule literals noted table at ≡ Some w → IsTrueOf (slice_get noted.notes at) t → Straight s (take w.count (drop at noted.lines)) t u
    → (v : State) × Straight s w.lines t v × Agree (live_after table (at + w.count - 1)) u v
