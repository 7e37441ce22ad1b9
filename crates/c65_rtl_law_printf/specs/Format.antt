-- `printf` reads the next byte of its format.
use Rattle.std.specs.Prelude.{◌≡◌, ◌≢◌, ℕ, ◌+◌, ◌<◌, ◌≤◌, ◌==◌, if◌then◌else◌, List, ◌∷◌, None}
use Rattle.c65_code.specs.LineState.{State, Frame, zero_word, s_of, IsBytes}
use Rattle.c65_code.specs.RawMachine.{RawSetting, Bounds, RawComes, IsReachable}
use Rattle.c65_rtl_law_walks.specs.Joined.{label_in}
use Rattle.c65_va.specs.Printf.{printf_lines}
use Rattle.c65_rtl_law_printf.specs.Arguments.{SameAside}
use Rattle.c65_rtl_law_printf.specs.Writing.{length_of, address_of}

-- the byte of the format that ptr1 points to
abbrev pub next_byte : State → ℕ
next_byte t = t.mem (zero_word t 8)

-- where it leads: to the end, to a width, or to be written itself
abbrev pub after_byte : ℕ → ℕ
after_byte b = if b == 0 then 10 else if b == 37 then 1 else 8

-- A byte other than zero is a text of its own, with no width, and ptr1 is behind it.
pub record Begins (t u : State) : Type 0 where
  pub format : zero_word u 8 ≡ zero_word t 8 + 1
  pub address : address_of u ≡ zero_word t 8
  pub length : length_of u ≡ 1
  pub width : u.zp 16 ≡ 0
  pub letter : u.zp 2 ≡ 0
  pub y : u.regs.y ≡ 0
  pub zp : (i : ℕ) → i ≢ 2 → i ≢ 8 → i ≢ 9 → i ≢ 14 → i ≢ 15 → i ≢ 16 → i ≢ 17 → i ≢ 18 → u.zp i ≡ t.zp i

pub record ReadsByte (t u : State) : Type 0 where
  pub none : next_byte t ≡ 0 → (i : ℕ) → u.zp i ≡ t.zp i
  pub some : next_byte t ≢ 0 → Begins t u
  pub same : SameAside t u

-- what holds before a byte is read
pub record MayRead (s : RawSetting) (bounds : Bounds) (t : State) : Type 0 where
  pub bytes : IsBytes t
  pub running : t.ended ≡ None
  pub hard : bounds.hard ≤ s_of t
  pub reach : IsReachable s.place bounds (zero_word t 8)
  pub fits : zero_word t 8 + 1 < 65536

-- Wherever the lines stand, they read a byte within 40 instructions.
abbrev pub BytesAreRead : Type 0
BytesAreRead = (s : RawSetting) (bounds : Bounds) (f : ℕ) (t : State) (frame : Frame) (frames : List Frame) → s.lines f ≡ printf_lines → t.frames ≡ frame ∷ frames → MayRead s bounds t
    → RawComes s bounds (λ q u. (q ≡ label_in s f (after_byte (next_byte t))) × (u.frames ≡ t.frames) × ReadsByte t u) 40 (label_in s f 0) t
