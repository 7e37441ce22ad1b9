-- `printf` keeps the minus sign of a negative number, and turns the number.
use Rattle.std.specs.Prelude.{◌≡◌, ◌≢◌, ℕ, ◌-◌, ◌≤◌, ◌==◌, Bool, false, if◌then◌else◌, nat_lt, List, ◌∷◌, None}
use Rattle.c65_code.specs.LineState.{State, Frame, s_of, IsBytes}
use Rattle.c65_code.specs.RawMachine.{RawSetting, Bounds, RawComes}
use Rattle.c65_rtl_law_walks.specs.Joined.{label_in}
use Rattle.c65_va.specs.Printf.{printf_lines}
use Rattle.c65_rtl_law_printf.specs.Arguments.{SameAside}
use Rattle.c65_rtl_law_printf.specs.Digits.{number_left}

-- the letter is d, and the number of 32 bits is of the upper half
abbrev pub is_negative : ℕ → ℕ → Bool
is_negative letter n = if letter == 52 then nat_lt 2147483647 n else false

abbrev pub magnitude : ℕ → ℕ → ℕ
magnitude letter n = if is_negative letter n then 4294967296 - n else n

pub record TakesSign (t u : State) : Type 0 where
  pub sign : u.zp 3 ≡ (if is_negative (t.zp 2) (number_left t.zp) then 1 else 0)
  pub number : number_left u.zp ≡ magnitude (t.zp 2) (number_left t.zp)
  pub zp : (i : ℕ) → i ≢ 3 → i ≢ 4 → i ≢ 5 → i ≢ 6 → i ≢ 7 → u.zp i ≡ t.zp i
  pub same : SameAside t u

-- Wherever the lines stand, they do so within 40 instructions.
abbrev pub SignsAreTaken : Type 0
SignsAreTaken = (s : RawSetting) (bounds : Bounds) (f : ℕ) (t : State) (frame : Frame) (frames : List Frame) → s.lines f ≡ printf_lines → t.frames ≡ frame ∷ frames → IsBytes t → t.ended ≡ None → bounds.hard ≤ s_of t
    → RawComes s bounds (λ q u. (q ≡ label_in s f 5) × (u.frames ≡ t.frames) × TakesSign t u) 40 (label_in s f 4) t
