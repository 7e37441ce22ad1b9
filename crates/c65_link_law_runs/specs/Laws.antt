-- Moves and runs are followed by rows.
use Rattle.std.specs.Prelude.{◌≡◌, ℕ, suc, ◌<◌, ◌≤◌, Bool, IsTrue, All, Some, None, slice_get}
use Rattle.c65_mach.specs.Run.{Setting, Moment}
use Rattle.c65_code.specs.declared.parts.RegSet.{RegSet}
use Rattle.c65_code.specs.declared.routine.Routine.{Routine}
use Rattle.c65_code.specs.declared.routine.Routine.TheVariants as routines
use Rattle.c65_code.specs.declared.line.Line.{Line}
use Rattle.c65_code.specs.LineState.{Place, State, Frame, IsBytes}
use Rattle.c65_code.specs.Placement.{stack_start}
use Rattle.c65_code.specs.Forms.{Form, Far, Run, Enter, Through, form_of}
use Rattle.c65_code.specs.Rows.{Row}
use Rattle.c65_code.specs.RawMachine.{RawSetting, Bounds, RawMoves, RawComes, IsRawWithin, HasDone, raw_weight, target_of}
use Rattle.c65_link_law_follow.specs.Agree.{Ground, Agrees, IsFirstOr}
use Rattle.c65_link_law_follow.specs.Laid.{IsLaid, IsGround, hook_address}
use Rattle.c65_link_law_follow.specs.Laws.{IsCounted}
use Rattle.c65_link_law_runs.specs.Follows.{first_hook, IsOnTheWay, Follows, IsSetFor, IsRunning, HasArgumentRoom}

-- a state that the line may lead to, of bytes with what is left of its input
pub record Leads (s : RawSetting) (l : Line) (p : Place) (t : State) (q : Place) (u : State) : Type 0 where
  pub moves : RawMoves s l p t q u
  pub input : All (λ v. v < 256) u.input

-- A line that stays within its bounds is followed by at least one row and at most as many as it weighs, of which only the first is done
-- at its first byte, and those behind it inside of it or at a hook.
abbrev pub MovesAreFollowed : Type 0
MovesAreFollowed = (g : Ground) (s : RawSetting) (setting : Setting) (bounds : Bounds) (f p : ℕ) (l : Line) (t : State) (now : Moment)
    → IsGround g s → IsLaid g s f → IsSetFor s setting → slice_get (s.lines f) p ≡ Some l → IsCounted g s (form_of l) → HasArgumentRoom s (form_of l) t
    → IsRunning t → stack_start ≤ bounds.soft → IsRawWithin s bounds (form_of l) t → Agrees g (g.at (f, p)) t now
    → Follows (IsFirstOr (IsOnTheWay g (f, p)) now) g setting 1 (raw_weight (form_of l)) now (Leads s l (f, p) t)

-- a line that leads to a function by its address or its symbol
abbrev pub LeadsToFunction : Form → Type 0
LeadsToFunction (Far i) = Unit {0}
LeadsToFunction (Enter f reads gives) = Unit {0}
LeadsToFunction _ = ⊥

-- The units that a run may come to: their lines stand in memory and ask for nothing beside the bounds, and what they call is
-- among them.
pub record AreUnits (g : Ground) (s : RawSetting) (units : ℕ → Bool) : Type 0 where
  pub laid : (f : ℕ) → IsTrue (units f) → IsLaid g s f
  pub counted : (f p : ℕ) (l : Line) → IsTrue (units f) → slice_get (s.lines f) p ≡ Some l → IsCounted g s (form_of l)
  pub no_arguments : (f p : ℕ) (l : Line) → IsTrue (units f) → slice_get (s.lines f) p ≡ Some l → form_of l ≡ Run routines.HookArgs → ⊥
  pub called : (f p : ℕ) (l : Line) (r : Routine) → IsTrue (units f) → slice_get (s.lines f) p ≡ Some l → form_of l ≡ Run r → hook_address r ≡ None → IsTrue (units (s.routine r))
  pub through : (f p : ℕ) (l : Line) (reads gives : RegSet) → IsTrue (units f) → slice_get (s.lines f) p ≡ Some l → form_of l ≡ Through reads gives → IsTrue (units (s.routine routines.CallPtr4))
  pub functions : (f p h : ℕ) (l : Line) → IsTrue (units f) → slice_get (s.lines f) p ≡ Some l → LeadsToFunction (form_of l) → IsTrue (s.is_function h) → IsTrue (units (target_of s (s.library h) h))

-- the machine stands in one of the units, and each active call goes back to one
pub record IsAmong (units : ℕ → Bool) (q : Place) (u : State) : Type 0 where
  pub place : IsTrue (units q.0)
  pub frames : All (λ (frame : Frame). IsTrue (units frame.back.0)) u.frames

-- what a run of lines has come to
pub record HasCome (Q Inv : Place → State → Type 0) (q : Place) (u : State) : Type 0 where
  pub holds : Q q u
  pub kept : Inv q u
  pub bytes : IsBytes u
  pub input : All (λ v. v < 256) u.input

-- the address is of a byte of a line of one of the units, or of a hook
pub data IsInUnits (g : Ground) (s : RawSetting) (units : ℕ → Bool) (a : ℕ) : Type 0 where
  in_line : (q : Place) (l : Line) → IsTrue (units q.0) → slice_get (s.lines q.0) q.1 ≡ Some l → g.at q ≤ a → a < g.at (q.0, suc q.1) → IsInUnits g s units a
  in_hook : first_hook ≤ a → IsInUnits g s units a

-- Where the lines of units come to what a routine does within a weight, at most so many rows come to it, all done in these units or
-- at hooks.
abbrev pub RunsAreFollowed : Type 0
RunsAreFollowed = (g : Ground) (s : RawSetting) (setting : Setting) (bounds : Bounds) (units : ℕ → Bool) (row : Row) (back : Place) (first : State) (w : ℕ) (p : Place) (t : State) (now : Moment)
    → IsGround g s → IsSetFor s setting → stack_start ≤ bounds.soft → AreUnits g s units → RawComes s bounds (HasDone row.ends row back first) w p t → IsAmong units p t → IsRunning t → Agrees g (g.at p) t now
    → Follows (λ m. IsInUnits g s units m.machine.pc) g setting 0 w now (HasCome (HasDone row.ends row back first) (IsAmong units))
