-- What the processor has come to where lines have moved on.
use Rattle.std.specs.Prelude.{◌≡◌, ◌⊎◌, ℕ, ◌+◌, ◌*◌, ◌<◌, ◌≤◌, false, All, List, length, Some, None}
use Rattle.c65_mach.specs.Run.{Setting, Moment, Ended, turn}
use Rattle.c65_sim.specs.Budgets.{is_too_deep}
use Rattle.c65_code.specs.declared.routine.Routine.TheVariants as routines
use Rattle.c65_code.specs.LineState.{Place, State, sp_of, ax_of, IsBytes}
use Rattle.c65_code.specs.Placement.{stack_start, stack_end}
use Rattle.c65_code.specs.Forms.{Form, Run}
use Rattle.c65_code.specs.RawMachine.{RawSetting, args_size}
use Rattle.c65_link_law_follow.specs.Agree.{Ground, Agrees, IsInside, Goes}

-- the addresses from which on the simulator takes over
abbrev pub first_hook : ℕ
first_hook = 0xFFF4

-- behind a line's first byte, or at a hook
abbrev pub IsOnTheWay : Ground → Place → ℕ → Type 0
IsOnTheWay g p a = IsInside g p a ⊎ (first_hook ≤ a)

-- At least and at most so many rows lead to a moment that agrees with a place and state of Q, or to the end of the run, with the status and the
-- output of one. P holds of each moment before a row.
pub data Follows (P : Moment → Type 0) (g : Ground) (setting : Setting) (least most : ℕ) (now : Moment) (Q : Place → State → Type 0) : Type 0 where
  goes_on : (rows : ℕ) (then_at : Moment) (q : Place) (u : State) → least ≤ rows → rows ≤ most → Goes P setting rows now then_at → Q q u → u.ended ≡ None → Agrees g (g.at q) u then_at
      → Follows P g setting least most now Q
  has_ended : (rows status : ℕ) (last : Moment) (q : Place) (u : State) → least ≤ rows + 1 → rows + 1 ≤ most → Goes P setting rows now last → is_too_deep last.machine ≡ false → P last → turn setting last ≡ Ended last status
      → Q q u → u.ended ≡ Some status → u.output ≡ last.output → Follows P g setting least most now Q

-- the simulator has the software stack's pointer at 0, and gives the arguments of the machine on lines, which are bytes
pub record IsSetFor (s : RawSetting) (setting : Setting) : Type 0 where
  pub sp : setting.sp ≡ 0
  pub args : setting.args ≡ s.args
  pub bytes : All (λ (arg : List ℕ). All (λ v. v < 256) arg) s.args

-- a state of a run that goes on: its bytes and those of its input are bytes
pub record IsRunning (t : State) : Type 0 where
  pub running : t.ended ≡ None
  pub bytes : IsBytes t
  pub input : All (λ v. v < 256) t.input

-- the arguments have room on the software stack, and the word that takes the address of their list lies in it
abbrev pub HasArgumentRoom : RawSetting → Form → State → Type 0
HasArgumentRoom s (Run routines.HookArgs) t = (stack_start + args_size s.args + 2 * (length s.args + 1) ≤ sp_of t) × (sp_of t ≤ stack_end) × (stack_start ≤ ax_of t) × (ax_of t + 2 ≤ stack_end)
HasArgumentRoom s _ t = Unit {0}
