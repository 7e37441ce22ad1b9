-- The integer types and their values (C90 6.1.2.5, 6.2.1.2).
use Rattle.std.specs.Prelude.{◌≡◌, ℕ, ◌-◌, ◌/◌, ◌%◌, ◌^◌, ℤ, pos, negsuc, neg_ℤ, ◌≤ℤ◌, ◌+ℤ◌, ◌*ℤ◌, Bool, true, false, ◌&&◌, nat_le, if◌then◌else◌}
use Rattle.c65_ints.specs.declared.types.IntType.{IntType}
use Rattle.c65_ints.specs.declared.types.IntType.TheVariants.{SChar, UChar, Short, UShort, Int, UInt, Long, ULong}

-- the number of bits
abbrev pub width_of : IntType → ℕ
width_of SChar = 8
width_of UChar = 8
width_of Short = 16
width_of UShort = 16
width_of Int = 16
width_of UInt = 16
width_of Long = 32
width_of ULong = 32

abbrev pub is_signed_of : IntType → Bool
is_signed_of SChar = true
is_signed_of UChar = false
is_signed_of Short = true
is_signed_of UShort = false
is_signed_of Int = true
is_signed_of UInt = false
is_signed_of Long = true
is_signed_of ULong = false

-- 2 to the width
abbrev pub modulus_of : IntType → ℕ
modulus_of t = 2 ^ width_of t

-- the least and the greatest value
abbrev pub least_of : IntType → ℤ
least_of t = if is_signed_of t then neg_ℤ (pos (modulus_of t / 2)) else pos 0

abbrev pub greatest_of : IntType → ℤ
greatest_of t = if is_signed_of t then pos (modulus_of t / 2 - 1) else pos (modulus_of t - 1)

-- the place of a type among the eight, by which two are told apart
abbrev pub number_of : IntType → ℕ
number_of SChar = 0
number_of UChar = 1
number_of Short = 2
number_of UShort = 3
number_of Int = 4
number_of UInt = 5
number_of Long = 6
number_of ULong = 7

pub record InRange (t : IntType) (z : ℤ) : Type 0 where
  pub low : least_of t ≤ℤ z
  pub high : z ≤ℤ greatest_of t

-- two numbers that differ by a multiple of 2 to the width
pub record Congruent (t : IntType) (z y : ℤ) : Type 0 where
  pub times : ℤ
  pub differ : z ≡ y +ℤ times *ℤ pos (modulus_of t)

-- the remainder from 0 on
abbrev pub residue : ℕ → ℤ → ℕ
residue m (pos n) = n % m
residue m (negsuc n) = m - 1 - n % m

-- a remainder, or the negative number that has it
abbrev pub placed : Bool → ℕ → ℕ → ℤ
placed signed m r = if signed && nat_le (m / 2) r then negsuc (m - 1 - r) else pos r

-- the value of the type that is congruent to a number
abbrev pub wrap_of : IntType → ℤ → ℤ
wrap_of t z = placed (is_signed_of t) (modulus_of t) (residue (modulus_of t) z)
