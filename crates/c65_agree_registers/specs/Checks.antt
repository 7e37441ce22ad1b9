-- Entries that check whether the stacks reach (docs/MACHINE.md, "Calls").
use Rattle.std.specs.Prelude.{◌≡◌, ℕ, ◌+◌, ◌<◌, ◌≤◌, ◌⊎◌, Option, None, Some}
use Rattle.c65_code.specs.LineState.{State, sp_of, s_of, eax_of, IsBytes}
use Rattle.c65_code.specs.Placement.{IsPlacement, stack_start}
use Rattle.c65_code.specs.Steady.{IsCalm}
use Rattle.c65_genentry.specs.Entry.{checked_code}
use Rattle.c65_agree_state.specs.World.{World, setting_in, Active}
use Rattle.c65_agree_frame.specs.Leads.{Leads, IsOn, SameBank}

-- the stacks reach where so many bytes are asked for: 64 more of the software stack, and 28 of the other one
pub record DoReach (asked : ℕ) (t : State) : Type 0 where
  pub few : asked < 65536
  pub soft : stack_start + 64 + asked ≤ sp_of t
  pub hard : 31 ≤ s_of t

-- A, X, sreg, Y, sp and regbank are as they were, and memory but for what lies below sp in the software stack
pub record IsChecked (t u : State) : Type 0 where
  pub sp : sp_of u ≡ sp_of t
  pub value : eax_of u ≡ eax_of t
  pub count : u.regs.y ≡ t.regs.y
  pub bank : SameBank t u
  pub mem : (n : ℕ) → (n < stack_start) ⊎ (sp_of t ≤ n) → u.mem n ≡ t.mem n
  pub pushed : u.pushed ≡ t.pushed
  pub frames : u.frames ≡ t.frames
  pub input : u.input ≡ t.input
  pub output : u.output ≡ t.output
  pub ended : u.ended ≡ t.ended
  pub bytes : IsBytes u

abbrev pub check_cost : ℕ
check_cost = 262

-- Where they reach, the lines of the check lead on.
abbrev pub StacksAreChecked : Type 0
StacksAreChecked = (g : World) (a : Active) (asked : ℕ) (t : State) → IsPlacement g.code g.place → IsOn g t → DoReach asked t
    → Leads g a (checked_code (Some asked)) check_cost t (IsChecked t)

-- one of them does not
abbrev pub AreTooSmall : ℕ → State → Type 0
AreTooSmall asked t = (sp_of t < stack_start + 64 + asked) ⊎ (s_of t < 31)

-- the run has ended with status 240, and what it had written stays
pub record HasEnded (g : World) (t u : State) : Type 0 where
  pub status : u.ended ≡ Some 240
  pub output : u.output ≡ t.output
  pub calm : IsCalm (setting_in g) u

-- Then the run ends in these lines, for as many bytes as two bytes of a line can tell.
abbrev pub SmallStacksEnd : Type 0
SmallStacksEnd = (g : World) (a : Active) (asked : ℕ) (t : State) → IsPlacement g.code g.place → IsOn g t → asked < 65536 → AreTooSmall asked t
    → Leads g a (checked_code (Some asked)) check_cost t (HasEnded g t)

-- ---- an entry, which may check them

-- the bytes for which it asks
abbrev pub asked_by : Option ℕ → ℕ
asked_by None = 0
asked_by (Some asked) = asked

-- the stacks reach for these, if it checks them
abbrev pub StacksReach : Option ℕ → State → Type 0
StacksReach None t = Unit {0}
StacksReach (Some asked) t = DoReach asked t

-- the weight of its check
abbrev pub checking_cost : Option ℕ → ℕ
checking_cost None = 0
checking_cost (Some asked) = check_cost
