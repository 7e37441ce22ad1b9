-- The characters of character constants and string literals (C90 6.1.3.4, 6.1.4).
use Rattle.std.specs.Prelude.{ℕ, ◌+◌, ◌-◌, ◌*◌, ◌==◌, nat_le, nat_lt, if◌then◌else◌, Bool, List, [], ◌∷◌, length, take, drop, slice_index_or, Option, Some, None, option_map, Result, Ok, Err}
use Rattle.c65_base.specs.declared.code.Code.{Code}
use Rattle.c65_base.specs.declared.code.Code.TheVariants.{BadEscape, CharConstant}
use Rattle.c65_scan.specs.declared.chars.Reading.{Reading}
use Rattle.c65_scan.specs.declared.chars.Reading.TheVariants as readings
use Rattle.c65_scan.specs.declared.chars.CharStep.{CharStep}
use Rattle.c65_scan.specs.declared.chars.CharStep.TheVariants as steps
use Rattle.c65_scan.specs.Digits.{octal_digit, hexadecimal_digit}

-- the simple escapes: \' \" \? \\ \a \b \f \n \r \t \v
abbrev pub simple_escape : ℕ → Option ℕ
simple_escape c =
    if c == 39 then Some 39 else if c == 34 then Some 34 else if c == 63 then Some 63 else if c == 92 then Some 92 else if c == 97 then Some 7 else if c == 98 then Some 8 else if c == 102 then Some 12 else if c == 110 then Some 10 else if c == 114 then Some 13 else if c == 116 then Some 9 else if c == 118 then Some 11 else None

-- a byte that is in no escape
abbrev pub plain_step : ℕ → CharStep
plain_step c = if c == 92 then steps.Go readings.Escape else steps.One c readings.Plain

-- a byte after an escape of this value
abbrev pub next_step : ℕ → ℕ → CharStep
next_step v c = if c == 92 then steps.One v readings.Escape else steps.Two v c readings.Plain

abbrev pub octal_start : Option ℕ → ℕ → CharStep
octal_start (Some d) c = steps.Go (readings.Octal d 1)
octal_start None c = if c == 120 then steps.Go readings.HexadecimalMark else steps.Bad

-- the byte after a backslash
abbrev pub escape_step : Option ℕ → ℕ → CharStep
escape_step (Some v) c = steps.One v readings.Plain
escape_step None c = octal_start (octal_digit c) c

-- no value may be above 255
abbrev pub octal_more : Option ℕ → ℕ → ℕ → ℕ → CharStep
octal_more (Some d) v n c = if nat_le (v * 8 + d) 255 then steps.Go (readings.Octal (v * 8 + d) (n + 1)) else steps.Bad
octal_more None v n c = next_step v c

abbrev pub hexadecimal_first : Option ℕ → CharStep
hexadecimal_first (Some d) = steps.Go (readings.Hexadecimal d)
hexadecimal_first None = steps.Bad

abbrev pub hexadecimal_more : Option ℕ → ℕ → ℕ → CharStep
hexadecimal_more (Some d) v c = if nat_le (v * 16 + d) 255 then steps.Go (readings.Hexadecimal (v * 16 + d)) else steps.Bad
hexadecimal_more None v c = next_step v c

-- an octal escape has up to three digits, and a hexadecimal one any number
abbrev pub char_step : Reading → ℕ → CharStep
char_step readings.Plain c = plain_step c
char_step readings.Escape c = escape_step (simple_escape c) c
char_step (readings.Octal v n) c = if nat_lt n 3 then octal_more (octal_digit c) v n c else next_step v c
char_step readings.HexadecimalMark c = hexadecimal_first (hexadecimal_digit c)
char_step (readings.Hexadecimal v) c = hexadecimal_more (hexadecimal_digit c) v c

abbrev pub last_char : Reading → Option (List ℕ)
last_char readings.Plain = Some []
last_char readings.Escape = None
last_char (readings.Octal v n) = Some (v ∷ [])
last_char readings.HexadecimalMark = None
last_char (readings.Hexadecimal v) = Some (v ∷ [])

-- the characters of the rest, or none for a bad escape
abbrev pub chars_from : Reading → List ℕ → Option (List ℕ)
chars_from r [] = last_char r
chars_from r (c ∷ cs) = elim (char_step r c) [ steps.Go q ↦ chars_from q cs | steps.One a q ↦ option_map (λ xs. a ∷ xs) (chars_from q cs) | steps.Two a b q ↦ option_map (λ xs. a ∷ b ∷ xs) (chars_from q cs) | steps.Bad ↦ None ]

-- what stands between the quotes
abbrev pub inside : List ℕ → List ℕ
inside s = take (length s - 2) (drop 1 s)

abbrev pub chars_of : List ℕ → Option (List ℕ)
chars_of s = chars_from readings.Plain (inside s)

-- the one character of a constant
abbrev pub only_char : Option (List ℕ) → Result ℕ Code
only_char None = Err BadEscape
only_char (Some []) = Err CharConstant
only_char (Some (c ∷ [])) = Ok c
only_char (Some (c ∷ d ∷ cs)) = Err CharConstant

-- the prefix L of a wide constant or literal
abbrev pub is_wide : List ℕ → Bool
is_wide s = slice_index_or s 0 0 == 76
