-- Numbers, symbols and sets of registers as they are read (docs/TEXT.md).
use Rattle.std.specs.Prelude.{ℕ, ◌+◌, ◌-◌, ◌*◌, ◌==◌, ◌&&◌, ◌||◌, not, Bool, false, if◌then◌else◌, nat_lt, List, [], ◌∷◌, Option, Some, None, option_map, is_some, codes, decimal, bytes_eq, length}
use Rattle.c65_code.specs.declared.parts.Part.TheVariants.{A, X, Y}
use Rattle.c65_code.specs.declared.parts.RegSet.{RegSet}
use Rattle.c65_code.specs.Parts.{no_parts, union_of, set_of}
use Rattle.c65_code.specs.Effects.{sreg_bytes}
use Rattle.c65_code.specs.Writable.{is_between, is_external}

-- what is read on after something was read
abbrev pub and_read : {A B : Type 0} → Option A → (A → Option B) → Option B
and_read None f = None
and_read (Some x) f = f x

abbrev pub is_digit : ℕ → Bool
is_digit byte = is_between 48 57 byte

-- a number with one digit more, where it is one of 32 bits
abbrev pub with_digit : ℕ → ℕ → Option ℕ
with_digit n byte = if is_digit byte && nat_lt (n * 10 + (byte - 48)) 4294967296 then Some (n * 10 + (byte - 48)) else None

abbrev pub with_digits : ℕ → List ℕ → Option ℕ
with_digits n [] = Some n
with_digits n (byte ∷ text) = and_read (with_digit n byte) (λ m. with_digits m text)

abbrev pub as_written : List ℕ → ℕ → Option ℕ
as_written text n = if bytes_eq (decimal n) text then Some n else None

-- a decimal number without leading zeros
abbrev pub number_in : List ℕ → Option ℕ
number_in text = and_read (with_digits 0 text) (as_written text)

abbrev pub hex_value : ℕ → Option ℕ
hex_value byte = if is_digit byte then Some (byte - 48) else if is_between 65 70 byte then Some (byte - 55) else None

abbrev pub hex_byte : ℕ → ℕ → Option ℕ
hex_byte high low = and_read (hex_value high) (λ h. option_map (λ l. h * 16 + l) (hex_value low))

-- $HH
abbrev pub byte_in : List ℕ → Option ℕ
byte_in (dollar ∷ high ∷ low ∷ []) = if dollar == 36 then hex_byte high low else None
byte_in _ = None

-- `sN` and `qN`
abbrev pub is_numbered : List ℕ → Bool
is_numbered [] = false
is_numbered (letter ∷ text) = (letter == 115 || (letter == 113)) && is_some (number_in text)

abbrev pub is_symbol : List ℕ → Bool
is_symbol text = is_external text || is_numbered text

-- what stands before the first such byte, and behind it
abbrev pub cut_at : ℕ → List ℕ → Option (List ℕ × List ℕ)
cut_at mark [] = None
cut_at mark (byte ∷ text) = if byte == mark then Some ([], text) else option_map (λ (p : List ℕ × List ℕ). (byte ∷ p.0, p.1)) (cut_at mark text)

abbrev pub short_offset : List ℕ → ℕ → Option (List ℕ × ℕ)
short_offset symbol n = if nat_lt n 65536 && is_symbol symbol then Some (symbol, n) else None

-- SYM+NUM
abbrev pub place_in : List ℕ → Option (List ℕ × ℕ)
place_in text = and_read (cut_at 43 text) (λ p. and_read (number_in p.1) (short_offset p.0))

abbrev pub begins : ℕ → List ℕ → Bool
begins letter [] = false
begins letter (byte ∷ text) = byte == letter

abbrev pub without : ℕ → List ℕ → List ℕ
without letter [] = []
without letter (byte ∷ text) = if byte == letter then text else byte ∷ text

abbrev pub joined : Bool → RegSet → RegSet → RegSet
joined is_in more set = if is_in then union_of set more else set

-- the letters of A, X, Y and S that the text has at its front, in this order, and the text behind them
abbrev pub letters_in : List ℕ → RegSet × List ℕ
letters_in text =
    let x = without 65 text in
    let y = without 88 x in
    let s = without 89 y in
    (joined (begins 83 s) sreg_bytes (joined (begins 89 y) (set_of (Y ∷ [])) (joined (begins 88 x) (set_of (X ∷ [])) (joined (begins 65 text) (set_of (A ∷ [])) no_parts))), without 83 s)

abbrev pub all_letters : List ℕ → RegSet × List ℕ → Option RegSet
all_letters text read = if not (length text == 0) && (length read.1 == 0) then Some read.0 else None

-- a set of registers: its letters, or a dash for none
abbrev pub set_in : List ℕ → Option RegSet
set_in text = if bytes_eq text (codes "-") then Some no_parts else all_letters text (letters_in text)
