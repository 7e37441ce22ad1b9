-- The entry and the end of a function move sp, and regbank is put away and brought back (docs/MACHINE.md, "Calls").
use Rattle.std.specs.Prelude.{◌≡◌, ℕ, ◌+◌, ◌*◌, ◌/◌, ◌≤◌}
use Rattle.c65_code.specs.LineState.{State, sp_of}
use Rattle.c65_code.specs.Placement.{IsPlacement, stack_start, stack_end}
use Rattle.c65_genframe.specs.Frames.{saved_bytes}
use Rattle.c65_genentry.specs.Stack.{raise_code, lower_code}
use Rattle.c65_genentry.specs.Entry.{saved_code}
use Rattle.c65_genentry.specs.Ends.{restored_code}
use Rattle.c65_agree_state.specs.World.{World, Active}
use Rattle.c65_agree_frame.specs.Leads.{Leads, IsOn, IsHigher, IsLower, IsSaved, IsBrought}

-- two lines for each 255 bytes, and two more
abbrev pub move_cost : ℕ → ℕ
move_cost count = 33 * (count / 255) + 33

abbrev pub StacksAreRaised : Type 0
StacksAreRaised = (g : World) (a : Active) (count : ℕ) (t : State) → IsPlacement g.code g.place → IsOn g t → sp_of t + count ≤ stack_end
    → Leads g a (raise_code count) (move_cost count) t (IsHigher count t)

-- where 64 bytes are left for a routine
abbrev pub StacksAreLowered : Type 0
StacksAreLowered = (g : World) (a : Active) (count : ℕ) (t : State) → IsPlacement g.code g.place → IsOn g t → stack_start + 64 + count ≤ sp_of t
    → Leads g a (lower_code count) (move_cost count) t (IsLower count t)

-- the bytes of regbank that are taken, lowest first
abbrev pub BanksAreSaved : Type 0
BanksAreSaved = (g : World) (a : Active) (bank : ℕ) (t : State) → IsPlacement g.code g.place → IsOn g t → stack_start + 64 + saved_bytes bank ≤ sp_of t
    → Leads g a (saved_code bank) 256 t (IsSaved (saved_bytes bank) t)

abbrev pub BanksAreBrought : Type 0
BanksAreBrought = (g : World) (a : Active) (bank : ℕ) (t : State) → IsPlacement g.code g.place → IsOn g t → sp_of t + saved_bytes bank ≤ stack_end
    → Leads g a (restored_code bank) 256 t (IsBrought (saved_bytes bank) t)
