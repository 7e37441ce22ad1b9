-- `printf` chooses a conversion by its letter, and takes the arguments of those that write numbers.
use Rattle.std.specs.Prelude.{◌≡◌, ◌≢◌, ℕ, ◌+◌, ◌-◌, ◌≤◌, ◌==◌, if◌then◌else◌, nat_lt, All, List, ◌∷◌}
use Rattle.c65_code.specs.LineState.{State, Frame, word_at, zero_word}
use Rattle.c65_code.specs.Rows.{long_at}
use Rattle.c65_code.specs.Texts.{range_of}
use Rattle.c65_code.specs.RawMachine.{RawSetting, Bounds, RawComes, IsReachable}
use Rattle.c65_rtl_law_walks.specs.Joined.{label_in}
use Rattle.c65_va.specs.Printf.{printf_lines, percent}
use Rattle.c65_rtl_law_printf.specs.Arguments.{SameAside, MayTake}
use Rattle.c65_rtl_law_printf.specs.Digits.{number_left}
use Rattle.c65_rtl_law_printf.specs.Format.{MayRead}
use Rattle.c65_rtl_law_printf.specs.Widths.{less_zero}

-- where a letter less `0` leads: `%` to be written, c, s and l to their own lines, and each other to a number of two bytes
abbrev pub after_letter : ℕ → ℕ
after_letter a = if a == percent then 8 else if a == 51 then 6 else if a == 67 then 7 else if a == 60 then 3 else 4

-- All is as before but for the registers other than Y, and the base, which is ten where l leads on.
pub record Chooses (t u : State) : Type 0 where
  pub base : t.regs.a ≡ 60 → u.zp 19 ≡ 10
  pub zp : (i : ℕ) → i ≢ 19 → u.zp i ≡ t.zp i
  pub y : u.regs.y ≡ t.regs.y
  pub same : SameAside t u

-- d is 52 here, and x is 72: a word is spread over the upper half by its sign where the letter is d
abbrev pub spread_by : ℕ → ℕ → ℕ
spread_by letter n = if letter == 52 then (if nat_lt 32767 n then n + 4294901760 else n) else n

abbrev pub base_by : ℕ → ℕ
base_by letter = if letter == 72 then 16 else 10

-- A word: ptr2 is two less, and regsave has the number.
pub record TakesWord (t u : State) : Type 0 where
  pub letter : u.zp 2 ≡ t.regs.a
  pub base : u.zp 19 ≡ base_by t.regs.a
  pub block : zero_word u 10 + 2 ≡ zero_word t 10
  pub number : number_left u.zp ≡ spread_by t.regs.a (word_at t.mem (zero_word t 10 - 2))
  pub zp : (i : ℕ) → i ≢ 2 → i ≢ 4 → i ≢ 5 → i ≢ 6 → i ≢ 7 → i ≢ 10 → i ≢ 11 → i ≢ 19 → u.zp i ≡ t.zp i
  pub same : SameAside t u

-- A long: the letter behind l is read, ptr2 is four less, and regsave has the number.
pub record TakesLong (t u : State) : Type 0 where
  pub format : zero_word u 8 ≡ zero_word t 8 + 1
  pub letter : u.zp 2 ≡ less_zero t
  pub block : zero_word u 10 + 4 ≡ zero_word t 10
  pub number : number_left u.zp ≡ long_at t.mem (zero_word t 10 - 4)
  pub zp : (i : ℕ) → i ≢ 2 → i ≢ 4 → i ≢ 5 → i ≢ 6 → i ≢ 7 → i ≢ 8 → i ≢ 9 → i ≢ 10 → i ≢ 11 → u.zp i ≡ t.zp i
  pub same : SameAside t u

-- Wherever the lines stand, they go by the letter in A within 60 instructions where it is none of a number of two bytes,
abbrev pub LettersAreChosen : Type 0
LettersAreChosen = (s : RawSetting) (bounds : Bounds) (f : ℕ) (t : State) (frame : Frame) (frames : List Frame) → s.lines f ≡ printf_lines → t.frames ≡ frame ∷ frames → MayTake s bounds t → after_letter t.regs.a ≢ 4
    → RawComes s bounds (λ q u. (q ≡ label_in s f (after_letter t.regs.a)) × (u.frames ≡ t.frames) × Chooses t u) 60 (label_in s f 2) t

-- and where it is one they take the word within 60,
abbrev pub WordsAreTaken : Type 0
WordsAreTaken = (s : RawSetting) (bounds : Bounds) (f : ℕ) (t : State) (frame : Frame) (frames : List Frame) → s.lines f ≡ printf_lines → t.frames ≡ frame ∷ frames → MayTake s bounds t → after_letter t.regs.a ≡ 4 → t.regs.y ≡ 0
    → All (IsReachable s.place bounds) (range_of 2 (zero_word t 10 - 2)) → RawComes s bounds (λ q u. (q ≡ label_in s f 4) × (u.frames ≡ t.frames) × TakesWord t u) 60 (label_in s f 2) t

-- and a long within 60.
abbrev pub LongsAreTaken : Type 0
LongsAreTaken = (s : RawSetting) (bounds : Bounds) (f : ℕ) (t : State) (frame : Frame) (frames : List Frame) → s.lines f ≡ printf_lines → t.frames ≡ frame ∷ frames → MayTake s bounds t → MayRead s bounds t → 4 ≤ zero_word t 10 → t.regs.y ≡ 0
    → All (IsReachable s.place bounds) (range_of 4 (zero_word t 10 - 4)) → RawComes s bounds (λ q u. (q ≡ label_in s f 4) × (u.frames ≡ t.frames) × TakesLong t u) 60 (label_in s f 3) t
