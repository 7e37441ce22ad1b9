-- Values of options.
use Rattle.std.specs.Prelude.{ℕ, ◌+◌, ◌^◌, List, [], ◌∷◌, Bool, true, false, not, ◌&&◌, if◌then◌else◌, ◌==◌, nat_lt, nat_le, length, take, drop, Option, Some, None}
use Rattle.std.specs.List.{list_all, list_any, position}
use Rattle.std.specs.Char.{is_ascii_digit}
use Rattle.std.specs.Str.Parse.{digits_value}
use Rattle.c65_lex.specs.declared.token.PpKind.{PpKind}
use Rattle.c65_lex.specs.declared.token.PpKind.TheVariants as kinds
use Rattle.c65_lex.specs.Spellings.{class_of}
use Rattle.c65_lex.specs.declared.define.Define.{Define}

-- a name of a file is not empty and does not begin with a dash
abbrev pub is_file : List ℕ → Bool
is_file [] = false
is_file (byte ∷ bytes) = not (byte == 45)

abbrev pub is_among : ℕ → List ℕ → Bool
is_among byte bytes = list_any (λ other. other == byte) bytes

-- the number that digits write: 1 to 4,294,967,295
abbrev pub whole_by : List ℕ → Option ℕ
whole_by word = if nat_lt 0 (digits_value 10 word) && nat_lt (digits_value 10 word) (2 ^ 32) then Some (digits_value 10 word) else None

abbrev pub is_digits : ℕ → List ℕ → Bool
is_digits most word = nat_le (length word) most && list_all is_ascii_digit word

-- such a number, of at most so many digits
abbrev pub whole_in : ℕ → List ℕ → Option ℕ
whole_in most word = if is_digits most word then whole_by word else None

-- the number of `-x`
abbrev pub cycles_in : List ℕ → Option ℕ
cycles_in word = whole_in 10 word

abbrev pub byte_of : Option ℕ → Option ℕ
byte_of None = None
byte_of (Some number) = if nat_lt number 256 then Some number else None

-- the number of `gen`: 1 to 255
abbrev pub number_in : List ℕ → Option ℕ
number_in word = byte_of (whole_in 3 word)

-- what stands behind a beginning
abbrev pub behind : List ℕ → List ℕ → Option (List ℕ)
behind [] word = Some word
behind (p ∷ ps) [] = None
behind (p ∷ ps) (b ∷ bs) = if b == p then behind ps bs else None

abbrev pub is_name_kind : Option PpKind → Bool
is_name_kind (Some kinds.Name) = true
is_name_kind _ = false

-- an identifier (C90 6.1.2)
abbrev pub is_name : List ℕ → Bool
is_name word = is_name_kind (class_of false word)

abbrev pub has_line_feed : List ℕ → Bool
has_line_feed text = list_any (λ byte. byte == 10) text

abbrev pub define_by : List ℕ → List ℕ → Option Define
define_by name body = if is_name name && not (has_line_feed body) then Some (record { name = name; body = body }) else None

abbrev pub define_at : List ℕ → Option ℕ → Option Define
define_at text None = define_by text (49 ∷ [])
define_at text (Some at) = define_by (take at text) (drop (at + 1) text)

-- `NAME=TEXT`, or `NAME` for `NAME=1`
abbrev pub define_in : List ℕ → Option Define
define_in text = define_at text (position (λ byte. byte == 61) text)
