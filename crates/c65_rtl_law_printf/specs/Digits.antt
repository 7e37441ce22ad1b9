-- How `printf` comes to a number's digits: it divides by the base again and again (C90 7.9.6.1).
use Rattle.std.specs.Prelude.{◌≡◌, ℕ, ◌+◌, ◌*◌, ◌/◌, ◌%◌, ◌≤◌, ◌⊎◌, false, List, ◌∷◌, None}
use Rattle.std.specs.Fmt.{digit_glyph}
use Rattle.c65_code.specs.LineState.{Bytes, State, Frame, s_of, IsBytes}
use Rattle.c65_code.specs.RawMachine.{RawSetting, Bounds, RawComes}
use Rattle.c65_rtl_law_walks.specs.Joined.{label_in}
use Rattle.c65_va.specs.Printf.{printf_lines}

-- the number whose digits are taken, in regsave
abbrev pub number_left : Bytes → ℕ
number_left zp = zp 4 + 256 * zp 5 + 65536 * (zp 6 + 256 * zp 7)

-- A digit is taken: the lowest one's byte less 48 is in A, the carry is clear, and regsave has the quotient. Beside these, X and
-- the flags all is as before.
pub record TakesDigit (base : ℕ) (t u : State) : Type 0 where
  pub digit : u.regs.a + 48 ≡ digit_glyph false (number_left t.zp % base)
  pub carry : u.regs.c ≡ false
  pub quotient : number_left u.zp ≡ number_left t.zp / base
  pub y : u.regs.y ≡ t.regs.y
  pub zp : (i : ℕ) → (i + 1 ≤ 4) ⊎ (8 ≤ i) → u.zp i ≡ t.zp i
  pub mem : (b : ℕ) → u.mem b ≡ t.mem b
  pub pushed : u.pushed ≡ t.pushed
  pub frames : u.frames ≡ t.frames
  pub input : u.input ≡ t.input
  pub output : u.output ≡ t.output
  pub ended : u.ended ≡ None

-- the labels before a digit, and behind its byte
abbrev pub each_digit : ℕ
each_digit = 19

abbrev pub its_byte : ℕ
its_byte = 22

-- Wherever the lines of `printf` stand, they come from the one to the other within 600 instructions, with the base in tmp4.
abbrev pub DigitsAreTaken : Type 0
DigitsAreTaken = (s : RawSetting) (bounds : Bounds) (f base : ℕ) (t : State) (frame : Frame) (frames : List Frame) → s.lines f ≡ printf_lines
    → IsBytes t → t.ended ≡ None → t.frames ≡ frame ∷ frames → bounds.hard ≤ s_of t → t.zp 19 ≡ base → 2 ≤ base → base ≤ 16
    → RawComes s bounds (λ q u. (q ≡ label_in s f its_byte) × TakesDigit base t u) 600 (label_in s f each_digit) t
