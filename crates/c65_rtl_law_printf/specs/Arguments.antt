-- `printf` takes the arguments of the conversions c and s off the end of the block.
use Rattle.std.specs.Prelude.{◌≡◌, ◌≢◌, ℕ, ◌+◌, ◌-◌, ◌*◌, ◌<◌, ◌≤◌, All, List, ◌∷◌, None}
use Rattle.c65_code.specs.LineState.{Bytes, State, Frame, word_at, zero_word, s_of, IsBytes}
use Rattle.c65_code.specs.Texts.{range_of}
use Rattle.c65_code.specs.RawMachine.{RawSetting, Bounds, RawComes, IsReachable}
use Rattle.c65_rtl_law_walks.specs.Joined.{label_in}
use Rattle.c65_va.specs.Printf.{printf_lines}
use Rattle.c65_rtl_law_printf.specs.Writing.{length_of, address_of}

-- beside the registers and the zero page all is as before
pub record SameAside (t u : State) : Type 0 where
  pub mem : (b : ℕ) → u.mem b ≡ t.mem b
  pub pushed : u.pushed ≡ t.pushed
  pub input : u.input ≡ t.input
  pub output : u.output ≡ t.output
  pub ended : u.ended ≡ None

-- A character: ptr2 is two less, and the text is the argument's own low byte.
pub record TakesCharacter (t u : State) : Type 0 where
  pub block : zero_word u 10 + 2 ≡ zero_word t 10
  pub address : address_of u ≡ zero_word u 10
  pub zp : (i : ℕ) → i ≢ 10 → i ≢ 11 → i ≢ 14 → i ≢ 15 → u.zp i ≡ t.zp i
  pub same : SameAside t u

-- bytes other than zero, so many, and a zero behind them
pub record IsTextOf (m : Bytes) (at size : ℕ) : Type 0 where
  pub inside : (k : ℕ) → k < size → m (at + k) ≢ 0
  pub ends : m (at + size) ≡ 0
  pub fits : at + size < 65536

-- A string: the text is the one at the address that the argument gives, and its length is measured.
pub record TakesString (place size : ℕ) (t u : State) : Type 0 where
  pub block : zero_word u 10 + 2 ≡ zero_word t 10
  pub address : address_of u ≡ place
  pub length : length_of u ≡ size
  pub zp : (i : ℕ) → i ≢ 10 → i ≢ 11 → i ≢ 14 → i ≢ 15 → i ≢ 17 → i ≢ 18 → u.zp i ≡ t.zp i
  pub same : SameAside t u

-- what holds before an argument is taken
pub record MayTake (s : RawSetting) (bounds : Bounds) (t : State) : Type 0 where
  pub bytes : IsBytes t
  pub running : t.ended ≡ None
  pub hard : bounds.hard ≤ s_of t
  pub some : 2 ≤ zero_word t 10

-- the labels of the two conversions, and the one behind them
abbrev pub character_label : ℕ
character_label = 6

abbrev pub string_label : ℕ
string_label = 7

abbrev pub width_label : ℕ
width_label = 8

-- Wherever the lines stand, they take a character within 20 instructions,
abbrev pub CharactersAreTaken : Type 0
CharactersAreTaken = (s : RawSetting) (bounds : Bounds) (f : ℕ) (t : State) (frame : Frame) (frames : List Frame) → s.lines f ≡ printf_lines → t.frames ≡ frame ∷ frames → MayTake s bounds t
    → RawComes s bounds (λ q u. (q ≡ label_in s f width_label) × (u.frames ≡ t.frames) × TakesCharacter t u) 20 (label_in s f character_label) t

-- and a string within 40, and 10 for each of its bytes.
abbrev pub StringsAreTaken : Type 0
StringsAreTaken = (s : RawSetting) (bounds : Bounds) (f size : ℕ) (t : State) (frame : Frame) (frames : List Frame) → s.lines f ≡ printf_lines → t.frames ≡ frame ∷ frames → MayTake s bounds t → t.regs.y ≡ 0
    → All (IsReachable s.place bounds) (range_of 2 (zero_word t 10 - 2)) → (let place = word_at t.mem (zero_word t 10 - 2) in IsTextOf t.mem place size → All (IsReachable s.place bounds) (range_of (size + 1) place)
    → RawComes s bounds (λ q u. (q ≡ label_in s f width_label) × (u.frames ≡ t.frames) × TakesString place size t u) (40 + 10 * size) (label_in s f string_label) t)
