-- What holds at the labels of `printf` that it comes to for each part of its format.
use Rattle.std.proofs.Common.{◌≡◌, ◌≢◌, ℕ, ◌+◌, ◌-◌, ◌*◌, ◌%◌, ◌<◌, ◌≤◌, ◌⊎◌, List, [], ◌∷◌, ◌++◌, None, length}
use Rattle.c65_base.specs.Formats.{character, string, outside, longer, gives, field, met, wide}
use Rattle.c65_code.specs.LineState.{State, Frame, sp_of, zero_word, IsBytes}
use Rattle.c65_code.specs.RawMachine.{RawSetting}
use Rattle.c65_code.specs.Texts.{bytes_at}
use Rattle.c65_rtl_law_printf.specs.Digits.{number_left}
use Rattle.c65_rtl_law_printf.specs.Writing.{length_of, address_of}
use Rattle.c65_rtl_law_printf_fields.specs.Numbers.{numeral}
use Rattle.c65_rtl_law_printf_row.proofs.Left.{Readable, Left, LeftOn}
use Rattle.c65_rtl_law_printf_row.proofs.Letters.{sized_by}
use Rattle.c65_rtl_law_printf_row.proofs.Numerals.{numeral_of}

-- a label, with the width, the text, and the format that is left, its place, the block's size, and what is to be written behind it
pub data Moment : Type 0 where
  at_next : (bs : List ℕ) (p size : ℕ) (rest : List ℕ) → Moment
  at_width : (w : ℕ) (bs : List ℕ) (p size : ℕ) (rest : List ℕ) → Moment
  at_letter : (w b : ℕ) (bs : List ℕ) (p size : ℕ) (rest : List ℕ) → Moment
  at_long : (w : ℕ) (bs : List ℕ) (p size : ℕ) (rest : List ℕ) → Moment
  at_number : (w base : ℕ) (chunk bs : List ℕ) (p size : ℕ) (rest : List ℕ) → Moment
  at_digits : (w base : ℕ) (chunk bs : List ℕ) (p size : ℕ) (rest : List ℕ) → Moment
  at_character : (w : ℕ) (bs : List ℕ) (p size : ℕ) (rest : List ℕ) → Moment
  at_string : (w : ℕ) (bs : List ℕ) (p size : ℕ) (rest : List ℕ) → Moment
  at_pad : (w : ℕ) (chunk bs : List ℕ) (p size : ℕ) (rest : List ℕ) → Moment
  at_text : (chunk bs : List ℕ) (p size : ℕ) (rest : List ℕ) → Moment
  at_end : (p size : ℕ) → Moment

abbrev pub label_of : Moment → ℕ
label_of (at_next bs p size rest) = 0
label_of (at_width w bs p size rest) = 1
label_of (at_letter w b bs p size rest) = 2
label_of (at_long w bs p size rest) = 3
label_of (at_number w base chunk bs p size rest) = 4
label_of (at_digits w base chunk bs p size rest) = 5
label_of (at_character w bs p size rest) = 6
label_of (at_string w bs p size rest) = 7
label_of (at_pad w chunk bs p size rest) = 8
label_of (at_text chunk bs p size rest) = 9
label_of (at_end p size) = 10

-- what the rest of a format may take: 3,072 for each of its bytes and each that is written
abbrev pub still : List ℕ → List ℕ → ℕ
still bs rest = 3072 * (length bs + length rest)

module _ (s : RawSetting) (t : State) (text : List ℕ) where
  -- So far in the format and in the block, and this is to be written; beside that all is as at the call.
  pub record Reading (p size : ℕ) (todo : List ℕ) (u : State) : Type 0 where
    pub format : zero_word u 8 ≡ p
    pub block : zero_word u 10 ≡ sp_of t + size
    pub told : u.output ++ todo ≡ t.output ++ text
    pub count : (zero_word u 12 + length todo) % 65536 ≡ length text % 65536
    pub bank : (i : ℕ) → 20 ≤ i → u.zp i ≡ t.zp i
    pub mem : (b : ℕ) → (b + 64 < sp_of t) ⊎ (sp_of t ≤ b) → u.mem b ≡ t.mem b
    pub pushed : u.pushed ≡ t.regs.y ∷ []
    pub input : u.input ≡ t.input
    pub ended : u.ended ≡ None

  -- behind `%`, which is itself the text so far
  pub record Noted (w : ℕ) (u : State) : Type 0 where
    pub sp : sp_of u ≡ sp_of t
    pub percent : t.mem (address_of u) ≡ 37
    pub readable : Readable s t (address_of u)
    pub length : length_of u ≡ 1
    pub own : u.zp 2 ≡ 0
    pub width : u.zp 16 ≡ w
    pub y : u.regs.y ≡ 0

  -- the text lies elsewhere, or below the sp of the call
  pub record LiesApart (chunk : List ℕ) (u : State) : Type 0 where
    pub own : u.zp 2 ≡ 0
    pub sp : sp_of u ≡ sp_of t
    pub readable : (k : ℕ) → k < length chunk → Readable s t (address_of u + k)

  pub record LiesBelow (chunk : List ℕ) (u : State) : Type 0 where
    pub letter : u.zp 2 ≢ 0
    pub address : address_of u ≡ sp_of u
    pub sp : sp_of u + length chunk ≡ sp_of t
    pub few : length chunk ≤ 11

  -- a text that is ready to be written
  pub record Ready (chunk : List ℕ) (u : State) : Type 0 where
    pub size : length_of u ≡ length chunk
    pub bytes : bytes_at (length chunk) (address_of u) u.mem ≡ chunk
    pub lies : LiesApart chunk u ⊎ LiesBelow chunk u

  -- a number that is taken
  pub record Taken (w base : ℕ) (u : State) : Type 0 where
    pub sp : sp_of u ≡ sp_of t
    pub width : u.zp 16 ≡ w
    pub short : u.zp 18 ≡ 0
    pub letter : u.zp 2 ≢ 0
    pub in_base : u.zp 19 ≡ base
    pub is_base : (base ≡ 10) ⊎ (base ≡ 16)

  abbrev pub Holds : Moment → ℕ → State → Type 0
  Holds (at_next bs p size rest) n u = Left s t outside bs p size rest × Reading p size rest u × (sp_of u ≡ sp_of t) × (200 + still bs rest ≤ n)
  Holds (at_width w bs p size rest) n u = Left s t (sized_by w) bs p size rest × Reading p size rest u × Noted w u × (3000 + still bs rest ≤ n)
  Holds (at_letter w b bs p size rest) n u = LeftOn s t (met (sized_by w) b) bs p size rest × Reading p size rest u × Noted w u × (u.regs.a ≡ (b + 208) % 256) × (b < 256) × (10 ≤ (b + 208) % 256) × (6000 + still bs rest ≤ n)
  Holds (at_long w bs p size rest) n u = Left s t (longer w) bs p size rest × Reading p size rest u × Noted w u × (u.zp 19 ≡ 10) × (5900 + still bs rest ≤ n)
  Holds (at_number w base chunk bs p size rest) n u = Left s t outside bs p size rest × Reading p size (wide w chunk ++ rest) u × Taken w base u × (chunk ≡ numeral_of (u.zp 2) base (number_left u.zp)) × (8100 + 80 * (w - length chunk) + still bs rest ≤ n)
  Holds (at_digits w base chunk bs p size rest) n u = Left s t outside bs p size rest × Reading p size (wide w chunk ++ rest) u × Taken w base u × (chunk ≡ numeral base (u.zp 3) (number_left u.zp)) × (8000 + 80 * (w - length chunk) + still bs rest ≤ n)
  Holds (at_character w bs p size rest) n u = LeftOn s t (gives (field w character)) bs p size rest × Reading p size rest u × Noted w u × (5900 + still bs rest ≤ n)
  Holds (at_string w bs p size rest) n u = LeftOn s t (gives (field w string)) bs p size rest × Reading p size rest u × Noted w u × (5900 + still bs rest ≤ n)
  Holds (at_pad w chunk bs p size rest) n u = Left s t outside bs p size rest × Reading p size (wide w chunk ++ rest) u × Ready chunk u × (u.zp 16 ≡ w) × (400 + 80 * (w - length chunk) + still bs rest ≤ n)
  Holds (at_text chunk bs p size rest) n u = Left s t outside bs p size rest × Reading p size (chunk ++ rest) u × Ready chunk u × (320 + still bs rest ≤ n)
  Holds (at_end p size) n u = Reading p size [] u × (sp_of u ≡ sp_of t) × (100 ≤ n)

  -- at a label, with the weight that is left and the calls of the routine
  abbrev pub Inv : List Frame → ℕ → ℕ → State → Type 0
  Inv calls l n u = (m : Moment) × (l ≡ label_of m) × IsBytes u × (u.frames ≡ calls) × Holds m n u
