-- Operators on the bits of an integer type in two's complement (C90 6.3.3.3, 6.3.10 to 6.3.12), truth and equality as numbers,
-- and the bytes of a number.
use Rattle.std.specs.Prelude.{ℕ, zero, suc, ◌-ℤ◌, Bool, true, false, ℤ, pos, neg_ℤ, if◌then◌else◌, bit_and, bit_or, bit_xor, int_lt}
use Rattle.c65_ints.specs.declared.types.IntType.{IntType}
use Rattle.c65_ints.specs.Ranges.{modulus_of, residue, wrap_of}
use Rattle.c65_ints.specs.Results.{floor_of}

abbrev pub by_bits : IntType → (ℕ → ℕ → ℕ) → ℤ → ℤ → ℤ
by_bits t f a b = wrap_of t (pos (f (residue (modulus_of t) a) (residue (modulus_of t) b)))

abbrev pub conjunction_of : IntType → ℤ → ℤ → ℤ
conjunction_of t a b = by_bits t bit_and a b

abbrev pub disjunction_of : IntType → ℤ → ℤ → ℤ
disjunction_of t a b = by_bits t bit_or a b

abbrev pub exclusion_of : IntType → ℤ → ℤ → ℤ
exclusion_of t a b = by_bits t bit_xor a b

abbrev pub negated_of : IntType → ℤ → ℤ
negated_of t a = wrap_of t (neg_ℤ a)

-- each bit turned, which is -a - 1
abbrev pub complement_of : IntType → ℤ → ℤ
complement_of t a = wrap_of t (neg_ℤ a -ℤ pos 1)

-- a test as a number (C90 6.3.8)
abbrev pub truth : Bool → ℤ
truth true = pos 1
truth false = pos 0

abbrev pub same_number : ℤ → ℤ → Bool
same_number a b = if int_lt a b then false else (if int_lt b a then false else true)

-- byte i of a number in two's complement, lowest first
abbrev pub byte_at : ℕ → ℤ → ℕ
byte_at zero z = residue 256 z
byte_at (suc i) z = byte_at i (floor_of z 256)
