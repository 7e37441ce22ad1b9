-- Lines are followed by rows.
use Rattle.std.specs.Prelude.{◌≡◌, ℕ, ◌<◌, ◌≤◌, IsTrue, Some, None, slice_get}
use Rattle.c65_mach.specs.Run.{Setting, Moment}
use Rattle.c65_code.specs.declared.line.Line.{Line}
use Rattle.c65_code.specs.LineState.{State, IsBytes}
use Rattle.c65_code.specs.Placement.{stack_start}
use Rattle.c65_code.specs.Forms.{Form, Depth, Far, Run, Enter, form_of}
use Rattle.c65_code.specs.RawMachine.{RawSetting, Bounds, RawGoes, IsRawWithin, raw_weight, hook_row}
use Rattle.c65_link_law_follow.specs.Agree.{Ground, Agrees, IsInside, Arrives}
use Rattle.c65_link_law_follow.specs.Laid.{IsLaid, IsGround}

-- a line that calls no hook
abbrev pub IsNoHook : RawSetting → Form → State → Type 0
IsNoHook s (Run r) t = hook_row s.args r t ≡ None
IsNoHook s _ t = Unit {0}

-- TSX counts from the S that main is called with, a jump through a word of the zero page has its high byte there too, and what is
-- called by its symbol is a function
abbrev pub IsCounted : Ground → RawSetting → Form → Type 0
IsCounted g s Depth = g.top ≡ 253
IsCounted g s (Far i) = i < 255
IsCounted g s (Enter f reads gives) = IsTrue (s.is_function f)
IsCounted g s _ = Unit {0}

-- A line of a unit that stays within its bounds is followed by at most as many rows as it weighs, of which only the first is done at its
-- first byte.
abbrev pub LinesAreFollowed : Type 0
LinesAreFollowed = (g : Ground) (s : RawSetting) (setting : Setting) (bounds : Bounds) (f p : ℕ) (l : Line) (t : State) (now : Moment)
    → IsGround g s → IsLaid g s f → slice_get (s.lines f) p ≡ Some l → IsNoHook s (form_of l) t → IsCounted g s (form_of l)
    → IsBytes t → stack_start ≤ bounds.soft → IsRawWithin s bounds (form_of l) t → Agrees g (g.at (f, p)) t now
    → Arrives g setting (raw_weight (form_of l)) now (IsInside g (f, p)) (RawGoes s (form_of l) (f, p) t)
