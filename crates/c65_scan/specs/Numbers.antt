-- Integer constants (C90 6.1.3.2), and which numbers are floating constants (C90 6.1.3.1).
use Rattle.std.specs.Prelude.{ℕ, ◌+◌, ◌*◌, Bool, true, false, ◌||◌, ◌==◌, min, if◌then◌else◌, List, [], ◌∷◌, drop, slice_index_or, find, Option, Some, None, option_map, option_and_then, is_some, pos, int_le, Result, Ok, Err}
use Rattle.c65_base.specs.declared.code.Code.{Code}
use Rattle.c65_base.specs.declared.code.Code.TheVariants.{BadNumber, NumberRange, Float}
use Rattle.c65_ints.specs.declared.types.IntType.{IntType}
use Rattle.c65_ints.specs.declared.types.IntType.TheVariants.{Int, UInt, Long, ULong}
use Rattle.c65_ints.specs.Ranges.{greatest_of}
use Rattle.c65_scan.specs.declared.number.Base.{Base}
use Rattle.c65_scan.specs.declared.number.Base.TheVariants.{Octal, Decimal, Hexadecimal}
use Rattle.c65_scan.specs.declared.number.Suffix.{Suffix}
use Rattle.c65_scan.specs.declared.number.Suffix.TheVariants as suffixes
use Rattle.c65_scan.specs.declared.float.FloatPart.{FloatPart}
use Rattle.c65_scan.specs.declared.float.FloatPart.TheVariants as parts
use Rattle.c65_scan.specs.Digits.{octal_digit, decimal_digit, hexadecimal_digit}

abbrev pub radix_of : Base → ℕ
radix_of Octal = 8
radix_of Decimal = 10
radix_of Hexadecimal = 16

abbrev pub digit_of : Base → ℕ → Option ℕ
digit_of Octal c = octal_digit c
digit_of Decimal c = decimal_digit c
digit_of Hexadecimal c = hexadecimal_digit c

abbrev pub is_x : ℕ → Bool
is_x c = (c == 88) || (c == 120)

-- 0x or 0X begins a hexadecimal constant, and another 0 an octal one
abbrev pub base_of : List ℕ → Base
base_of s = if slice_index_or s 0 0 == 48 then (if is_x (slice_index_or s 1 0) then Hexadecimal else Octal) else Decimal

-- the constant from its first digit on
abbrev pub digits_of : Base → List ℕ → List ℕ
digits_of Octal s = s
digits_of Decimal s = s
digits_of Hexadecimal s = drop 2 s

-- a suffix with one more letter: u and l at most once each, in either order and case
abbrev pub with_letter : Suffix → ℕ → Option Suffix
with_letter suffixes.Plain c = if (c == 85) || (c == 117) then Some suffixes.Unsigned else if (c == 76) || (c == 108) then Some suffixes.Long else None
with_letter suffixes.Unsigned c = if (c == 76) || (c == 108) then Some suffixes.UnsignedLong else None
with_letter suffixes.Long c = if (c == 85) || (c == 117) then Some suffixes.UnsignedLong else None
with_letter suffixes.UnsignedLong c = None

-- the suffix that goes on with these letters and no other byte
abbrev pub suffix_from : Suffix → List ℕ → Option Suffix
suffix_from x [] = Some x
suffix_from x (c ∷ cs) = option_and_then (λ y. suffix_from y cs) (with_letter x c)

-- the value and suffix, where digits of this value stood before
abbrev pub integer_from : Base → ℕ → List ℕ → Option (ℕ × Suffix)
integer_from b v [] = Some (v, suffixes.Plain)
integer_from b v (c ∷ cs) = elim (digit_of b c) [ Some d ↦ integer_from b (v * radix_of b + d) cs | None ↦ option_map (λ x. (v, x)) (suffix_from suffixes.Plain (c ∷ cs)) ]

-- an integer constant has a digit
abbrev pub starts : Base → List ℕ → Bool
starts b [] = false
starts b (c ∷ cs) = is_some (digit_of b c)

abbrev pub integer_of : Base → List ℕ → Option (ℕ × Suffix)
integer_of b s = if starts b s then integer_from b 0 s else None

-- the types that a constant may have
abbrev pub row_of : Base → Suffix → List IntType
row_of Decimal suffixes.Plain = Int ∷ Long ∷ ULong ∷ []
row_of Octal suffixes.Plain = Int ∷ UInt ∷ Long ∷ ULong ∷ []
row_of Hexadecimal suffixes.Plain = Int ∷ UInt ∷ Long ∷ ULong ∷ []
row_of _ suffixes.Unsigned = UInt ∷ ULong ∷ []
row_of _ suffixes.Long = Long ∷ ULong ∷ []
row_of _ suffixes.UnsignedLong = ULong ∷ []

-- the first of them that holds its value
abbrev pub type_of : Base → Suffix → ℕ → Option IntType
type_of b x v = find (λ t. int_le (pos v) (greatest_of t)) (row_of b x)

-- a value above 32 bits, counted as 2 to the 32
abbrev pub capped : Option (ℕ × Suffix) → Option (ℕ × Suffix)
capped c = option_map (λ x. (min x.0 4294967296, x.1)) c

abbrev pub typed : Base → ℕ × Suffix → Result (IntType × ℕ) Code
typed b c = elim (type_of b c.1 c.0) [ Some t ↦ Ok (t, c.0) | None ↦ Err NumberRange ]

-- floating constants: a whole part, a point and a fraction, one of the two with a digit, then e, a sign and digits, then a suffix; with a point or with e
abbrev pub is_digit : ℕ → Bool
is_digit c = is_some (decimal_digit c)

abbrev pub is_e : ℕ → Bool
is_e c = (c == 69) || (c == 101)

abbrev pub is_float_suffix : ℕ → Bool
is_float_suffix c = (c == 70) || ((c == 102) || ((c == 76) || (c == 108)))

abbrev pub float_part : FloatPart → ℕ → Option FloatPart
float_part parts.Start c = if is_digit c then Some parts.Whole else if c == 46 then Some parts.Point else None
float_part parts.Whole c = if is_digit c then Some parts.Whole else if c == 46 then Some parts.Fraction else if is_e c then Some parts.Mark else None
float_part parts.Point c = if is_digit c then Some parts.Fraction else None
float_part parts.Fraction c = if is_digit c then Some parts.Fraction else if is_e c then Some parts.Mark else if is_float_suffix c then Some parts.Suffixed else None
float_part parts.Mark c = if is_digit c then Some parts.Exponent else if (c == 43) || (c == 45) then Some parts.Sign else None
float_part parts.Sign c = if is_digit c then Some parts.Exponent else None
float_part parts.Exponent c = if is_digit c then Some parts.Exponent else if is_float_suffix c then Some parts.Suffixed else None
float_part parts.Suffixed c = None

abbrev pub may_end : FloatPart → Bool
may_end parts.Fraction = true
may_end parts.Exponent = true
may_end parts.Suffixed = true
may_end _ = false

abbrev pub float_from : FloatPart → List ℕ → Bool
float_from p [] = may_end p
float_from p (c ∷ cs) = elim (float_part p c) [ Some q ↦ float_from q cs | None ↦ false ]

abbrev pub is_float : List ℕ → Bool
is_float s = float_from parts.Start s

-- a preprocessing number that is no integer constant
abbrev pub no_integer : List ℕ → Result (IntType × ℕ) Code
no_integer s = if is_float s then Err Float else Err BadNumber

-- type and value of a preprocessing number
abbrev pub number_in : Base → List ℕ → Result (IntType × ℕ) Code
number_in b s = elim (integer_of b (digits_of b s)) [ Some c ↦ typed b c | None ↦ no_integer s ]

abbrev pub number_of : List ℕ → Result (IntType × ℕ) Code
number_of s = number_in (base_of s) s
