-- Bit-fields in their units of 16 bits (C90 6.5.2.1).
use Rattle.std.specs.Prelude.{ℕ, Bool, ◌+◌, ◌-◌, ◌*◌, ◌/◌, ◌%◌, ◌^◌, ◌==◌, not, ◌&&◌, nat_lt, nat_le, min, if◌then◌else◌, List, [], ◌∷◌, ◌++◌, replicate}
use Rattle.c65_ints.specs.declared.types.IntType.TheVariants.{SChar, UChar}
use Rattle.c65_ints.specs.Ranges.{is_signed_of}
use Rattle.c65_mach.specs.declared.rows.Op.TheVariants.{And, Asl, Eor, Lda, Lsr, Rol, Ror, Sbc, Sec, Stx}
use Rattle.c65_code.specs.declared.line.Line.{Line}
use Rattle.c65_code.specs.declared.routine.TosOp.TheVariants.{Shl, Shr, Asr}
use Rattle.c65_genwide.specs.Lines.{value}
use Rattle.c65_genwide.specs.Wide.{narrow_code}
use Rattle.c65_genload.specs.declared.places.Field.{Field}
use Rattle.c65_genload.specs.Words.{tmp1, implied, shift_a, zero_page}
use Rattle.c65_genload.specs.Numbers.{first, mask_code, shift_code}

-- so many ones, at most 16
abbrev pub ones : ℕ → ℕ
ones width = 2 ^ min width 16 - 1

-- the bits of the unit that are not of the field
abbrev pub others : Field → ℕ
others f = 65535 - ones f.width * 2 ^ min f.low 16 % 65536

-- ---- a field whose bits lie in one byte of the unit

abbrev pub is_in_byte : Field → Bool
is_in_byte f = nat_lt f.low 16 && nat_le (f.low % 8 + f.width) 8

-- its bits of that byte
abbrev pub own_bits : Field → ℕ
own_bits f = first (ones f.width * 2 ^ (f.low % 8))

-- the bit of A at a number comes to the lowest: to the right, or round by the left
abbrev pub down_code : ℕ → List Line
down_code low = if nat_le low 4 then replicate low (shift_a Lsr) else shift_a Asl ∷ replicate (8 - low) (shift_a Rol)

-- the lowest bit of A comes to the one at a number: to the left, or round by the right
abbrev pub up_code : ℕ → List Line
up_code low = if nat_le low 4 then replicate low (shift_a Asl) else shift_a Lsr ∷ replicate (8 - low) (shift_a Ror)

-- whether bits that come down have zeros above them
abbrev pub is_topmost : Field → Bool
is_topmost f = nat_le (f.low % 8) 4 && f.low % 8 + f.width == 8

-- the lowest bits of A
abbrev pub cut_code : Field → List Line
cut_code f = if is_topmost f then [] else value And (first (ones f.width)) ∷ []

abbrev pub sign_bit : ℕ → ℕ
sign_bit width = first (ones width / 2 + 1)

-- the sign goes up to the top of A
abbrev pub spread_code : ℕ → List Line
spread_code width = if width == 8 then [] else value Eor (sign_bit width) ∷ implied Sec ∷ value Sbc (sign_bit width) ∷ []

-- AX from the lowest bits of A
abbrev pub signed_code : Field → List Line
signed_code f = if is_signed_of f.kind then spread_code f.width ++ narrow_code SChar else narrow_code UChar

-- from the byte in A to the value
abbrev pub byte_value_code : Field → List Line
byte_value_code f = down_code (f.low % 8) ++ (cut_code f ++ signed_code f)

-- ---- any field

abbrev pub mask_unless_all : ℕ → List Line
mask_unless_all n = if n == 65535 then [] else mask_code n

-- two lines, or none
abbrev pub once : Bool → Line → Line → List Line
once b first next = if b then first ∷ next ∷ [] else []

-- both lines so many times, at most four
abbrev pub rounds : ℕ → Line → Line → List Line
rounds n first next = once (nat_le 1 n) first next ++ (once (nat_le 2 n) first next ++ (once (nat_le 3 n) first next ++ once (nat_le 4 n) first next))

-- the bit at a number of A and tmp1, its high byte, comes to the lowest of A: to the right, or by the left into tmp1
abbrev pub both_down_code : ℕ → List Line
both_down_code low = if nat_le low 4 then rounds low (zero_page Lsr tmp1) (shift_a Ror) else rounds (8 - low) (shift_a Asl) (zero_page Rol tmp1) ++ zero_page Lda tmp1 ∷ []

-- a field without a sign that has room in one byte, and begins in the low one of the unit
abbrev pub is_astride : Field → Bool
is_astride f = not (is_signed_of f.kind) && (nat_lt f.low 8 && nat_le f.width 8)

abbrev pub astride_code : Field → List Line
astride_code f = zero_page Stx tmp1 ∷ (both_down_code f.low ++ (value And (first (ones f.width)) ∷ narrow_code UChar))

-- from the unit in AX to the value: a signed one goes up to the top and down again
abbrev pub wide_value_code : Field → List Line
wide_value_code f = if is_signed_of f.kind then shift_code Shl (16 - min (f.low + f.width) 16) ++ shift_code Asr (16 - min f.width 16) else shift_code Shr f.low ++ mask_unless_all (ones f.width)

abbrev pub extract_code : Field → List Line
extract_code f = if is_astride f then astride_code f else wide_value_code f

-- from the lowest bits of AX to the value
abbrev pub lowest_code : Field → List Line
lowest_code f = if is_in_byte f then byte_value_code f else extract_code f

-- a value is brought into the range of the field
abbrev pub range_code : Field → List Line
range_code f = lowest_code (record f { low = 0 })

-- from the value to the unit with zeros beside it
abbrev pub aligned_code : Field → List Line
aligned_code f = mask_code (ones f.width) ++ shift_code Shl f.low

-- whether the field is the unit
abbrev pub is_unit : Field → Bool
is_unit f = f.low == 0 && nat_le 16 f.width
