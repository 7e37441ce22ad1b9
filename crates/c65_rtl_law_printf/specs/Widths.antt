-- `printf` reads the digits of a width behind `%`.
use Rattle.std.specs.Prelude.{◌≡◌, ◌≢◌, ℕ, ◌+◌, ◌*◌, ◌%◌, ◌<◌, ◌≤◌, if◌then◌else◌, nat_lt, List, ◌∷◌}
use Rattle.c65_code.specs.LineState.{State, Frame, zero_word}
use Rattle.c65_code.specs.RawMachine.{RawSetting, Bounds, RawComes}
use Rattle.c65_rtl_law_walks.specs.Joined.{label_in}
use Rattle.c65_va.specs.Printf.{printf_lines}
use Rattle.c65_rtl_law_printf.specs.Arguments.{SameAside}
use Rattle.c65_rtl_law_printf.specs.Format.{next_byte, MayRead}

-- the byte less `0`, and where it leads: a digit to the next byte, another one to the conversion
abbrev pub less_zero : State → ℕ
less_zero t = (next_byte t + 208) % 256

abbrev pub after_digit : ℕ → ℕ
after_digit d = if nat_lt d 10 then 1 else 2

-- ptr1 is behind the byte, and a digit is put behind that of the width; another byte is in A, less `0`.
pub record ReadsDigit (t u : State) : Type 0 where
  pub format : zero_word u 8 ≡ zero_word t 8 + 1
  pub digit : less_zero t < 10 → t.zp 16 < 10 → u.zp 16 ≡ 10 * t.zp 16 + less_zero t
  pub letter : 10 ≤ less_zero t → (u.regs.a ≡ less_zero t) × (u.zp 16 ≡ t.zp 16)
  pub y : u.regs.y ≡ t.regs.y
  pub zp : (i : ℕ) → i ≢ 3 → i ≢ 8 → i ≢ 9 → i ≢ 16 → u.zp i ≡ t.zp i
  pub same : SameAside t u

-- Wherever the lines stand, they read a digit, or what is behind the width, within 40 instructions.
abbrev pub WidthsAreRead : Type 0
WidthsAreRead = (s : RawSetting) (bounds : Bounds) (f : ℕ) (t : State) (frame : Frame) (frames : List Frame) → s.lines f ≡ printf_lines → t.frames ≡ frame ∷ frames → MayRead s bounds t → t.regs.y ≡ 0
    → RawComes s bounds (λ q u. (q ≡ label_in s f (after_digit (less_zero t))) × (u.frames ≡ t.frames) × ReadsDigit t u) 40 (label_in s f 1) t
