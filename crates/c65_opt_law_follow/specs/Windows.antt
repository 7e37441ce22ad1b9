-- Ways through lines that stand behind one another, and when such lines may stand for others.
use Rattle.std.specs.Prelude.{◌≡◌, ℕ, ◌+◌, ◌≤◌, true, false, List, [], ◌∷◌, None}
use Rattle.c65_base.specs.declared.library.Library.TheVariants.{Putchar, Puts, Printf, Exit}
use Rattle.c65_mach.specs.declared.rows.Op.{Op}
use Rattle.c65_mach.specs.Step.{is_taken}
use Rattle.c65_code.specs.declared.line.Line.{Line}
use Rattle.c65_code.specs.declared.parts.RegSet.{RegSet}
use Rattle.c65_code.specs.declared.routine.Routine.{Routine}
use Rattle.c65_code.specs.declared.routine.Routine.TheVariants as routines
use Rattle.c65_code.specs.Forms.{Form, Plain, Branch, Jump, Push, Pull, Depth, Run, form_of}
use Rattle.c65_code.specs.LineState.{State, IsBytes}
use Rattle.c65_code.specs.Moves.{Does}
use Rattle.c65_code.specs.Parts.{union_of}
use Rattle.c65_code.specs.Placement.{Placement, Setting}
use Rattle.c65_code.specs.Rows.{row_of}
use Rattle.c65_code.specs.Steady.{IsCalm, IsSteady}
use Rattle.c65_code.specs.Weights.{row_cost}
use Rattle.c65_opt_law_near.specs.Near.{before, Near}

-- lines are left behind the last one, or to a label
pub data WayOut : Type 0 where
  Behind : WayOut
  ToLabel : (label : ℕ) → WayOut

-- a routine that shows nothing to the outside, and comes back
abbrev pub IsSilent : Routine → Type 0
IsSilent (routines.Library Putchar) = ⊥
IsSilent (routines.Library Puts) = ⊥
IsSilent (routines.Library Printf) = ⊥
IsSilent (routines.Library Exit) = ⊥
IsSilent routines.StkChk = ⊥
IsSilent routine = Unit {0}

-- a line behind which the next one comes, and that shows nothing
abbrev pub IsPassed : Form → Type 0
IsPassed (Plain op mode operand) = Unit {0}
IsPassed Push = Unit {0}
IsPassed Pull = Unit {0}
IsPassed Depth = Unit {0}
IsPassed (Run routine) = IsSilent routine
IsPassed form = ⊥

-- a line of a window: one that is passed, a jump or a branch
abbrev pub IsInner : Form → Type 0
IsInner (Branch op label) = Unit {0}
IsInner (Jump label) = Unit {0}
IsInner form = IsPassed form

abbrev pub AreInner : List Line → Type 0
AreInner [] = Unit {0}
AreInner (line ∷ lines) = IsInner (form_of line) × AreInner lines

-- what a local line weighs in a state
abbrev pub weight_of : Form → State → ℕ
weight_of (Branch op label) t = 2
weight_of (Run routine) t = row_cost (row_of routine t)
weight_of form t = 1

-- a way through lines from a state: where it leaves them, in which state, and what it weighs
pub data Way (place : Placement) : List Line → State → WayOut → State → ℕ → Type 0 where
  ends : {t : State} → Way place [] t Behind t 0
  goes : {line : Line} {lines : List Line} {t u v : State} {exit : WayOut} {w : ℕ} → IsPassed (form_of line) → Does place (form_of line) t u → IsBytes u → Way place lines u exit v w
      → Way place (line ∷ lines) t exit v (weight_of (form_of line) t + w)
  jumps : {line : Line} {lines : List Line} {t : State} (label : ℕ) → form_of line ≡ Jump label → Way place (line ∷ lines) t (ToLabel label) t 1
  branches : {line : Line} {lines : List Line} {t : State} (op : Op) (label : ℕ) → form_of line ≡ Branch op label → is_taken op t.regs ≡ true → Way place (line ∷ lines) t (ToLabel label) t 2
  passes : {line : Line} {lines : List Line} {t v : State} {exit : WayOut} {w : ℕ} (op : Op) (label : ℕ) → form_of line ≡ Branch op label → is_taken op t.regs ≡ false → Way place lines t exit v w
      → Way place (line ∷ lines) t exit v (2 + w)

-- each way through the lines is steady at each line, and weighs at most w
pub data Safe (s : Setting) : List Line → ℕ → State → Type 0 where
  safe_end : {w : ℕ} {t : State} → Safe s [] w t
  safe_line : {line : Line} {lines : List Line} {w v : ℕ} {t : State} → IsPassed (form_of line) → IsSteady s line t → weight_of (form_of line) t + v ≤ w
      → ((u : State) → Does s.place (form_of line) t u → IsBytes u → Safe s lines v u) → Safe s (line ∷ lines) w t
  safe_jump : {line : Line} {lines : List Line} {w : ℕ} {t : State} (label : ℕ) → form_of line ≡ Jump label → IsSteady s line t → 1 ≤ w → Safe s (line ∷ lines) w t
  safe_branch : {line : Line} {lines : List Line} {w v : ℕ} {t : State} (op : Op) (label : ℕ) → form_of line ≡ Branch op label → IsSteady s line t → 2 + v ≤ w → (is_taken op t.regs ≡ false → Safe s lines v t) → Safe s (line ∷ lines) w t

-- what holds at every moment of a steady run holds where each way leaves
abbrev pub EndsCalm : Setting → List Line → State → Type 0
EndsCalm s lines t = (exit : WayOut) (u : State) (w : ℕ) → Way s.place lines t exit u w → IsCalm s u

-- what is live before lines of a function that gives `out`, by what is live where they are left
abbrev pub live_by : RegSet → (WayOut → RegSet) → Line → Form → RegSet → RegSet
live_by out after line (Branch op label) rest = before out line (union_of (after (ToLabel label)) rest)
live_by out after line (Jump label) rest = before out line (after (ToLabel label))
live_by out after line form rest = before out line rest

abbrev pub live_before : RegSet → (WayOut → RegSet) → List Line → RegSet
live_before out after [] = after Behind
live_before out after (line ∷ lines) = live_by out after line (form_of line) (live_before out after lines)

-- the old way that answers a new one: it leaves to the same place, its state is near, and it weighs no less
pub record Answers (place : Placement) (to : WayOut → ℕ) (after : WayOut → RegSet) (old : List Line) (t : State) (exit : WayOut) (u : State) (w : ℕ) : Type 0 where
  pub old_exit : WayOut
  pub state : State
  pub weighs : ℕ
  pub way : Way place old t old_exit state weighs
  pub less : w ≤ weighs
  pub same : to old_exit ≡ to exit
  pub near : Near (after old_exit) state u

-- a state from which the old lines are run
pub record Starts (s : Setting) (known : State → Type 0) (old : List Line) (w : ℕ) (t : State) : Type 0 where
  pub knows : known t
  pub running : t.ended ≡ None
  pub bytes : IsBytes t
  pub safe : Safe s old w t
  pub calm : EndsCalm s old t

-- The new lines may stand for the old ones: from each state of which what is known is so, and from which all old ways are steady,
-- their ends included, all new ways are steady, and each is answered by an old one.
pub record Justified (s : Setting) (to : WayOut → ℕ) (after : WayOut → RegSet) (known : State → Type 0) (old new : List Line) : Type 0 where
  pub safe : (w : ℕ) (t : State) → Starts s known old w t → Safe s new w t
  pub answers : (w : ℕ) (t : State) → Starts s known old w t → (exit : WayOut) (u : State) (v : ℕ) → Way s.place new t exit u v → Answers s.place to after old t exit u v
