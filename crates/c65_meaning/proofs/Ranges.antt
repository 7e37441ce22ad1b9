-- Numbers in the range of their types.
use Rattle.std.proofs.Common.{◌≡◌, ℕ, zero, suc, ◌+◌, ◌-◌, ◌/◌, ◌%◌, ◌<◌, ◌≤◌, ◌^◌, ℤ, pos, negsuc, neg_ℤ, ◌≤ℤ◌, ◌+ℤ◌, ◌-ℤ◌, ◌*ℤ◌, unsigned_abs, int_div, int_rem, Bool, true, false, nat_le, if◌then◌else◌, refl, subst, arith}
use Rattle.std.specs.Prelude.{Option, Some, None, option_map}
use Rattle.std.proofs.lemmas.Int.{ints, quot-rem}
use Rattle.std.proofs.Math.Nat.{div-le_self}
use lib.IntN.{*ℤ_comm}
use Rattle.c65_ints.specs.declared.types.IntType.{IntType}
use Rattle.c65_ints.specs.declared.types.IntType.TheVariants.{SChar, UChar, Short, UShort, Int, UInt, Long, ULong}
use Rattle.c65_ints.specs.Ranges.{modulus_of, is_signed_of, residue, placed, wrap_of, least_of, greatest_of, InRange}
use Rattle.c65_ints.specs.Results.{cut, quotient_of, remainder_of, floor_of, count_of, shifted_left_of, shifted_right_of}

-- a remainder below a modulus that is not above the type's
unsigned_placed : (t : IntType) (m r : ℕ) → is_signed_of t ≡ false → r < m → m ≤ modulus_of t → InRange t (pos r)
unsigned_placed SChar m r s h g = absurd (cc)
unsigned_placed UChar m r s h g = record { low = omega (arith, ints); high = omega (arith, ints) }
unsigned_placed Short m r s h g = absurd (cc)
unsigned_placed UShort m r s h g = record { low = omega (arith, ints); high = omega (arith, ints) }
unsigned_placed Int m r s h g = absurd (cc)
unsigned_placed UInt m r s h g = record { low = omega (arith, ints); high = omega (arith, ints) }
unsigned_placed Long m r s h g = absurd (cc)
unsigned_placed ULong m r s h g = record { low = omega (arith, ints); high = omega (arith, ints) }

-- at a signed type whose values go from -half on
module _ (t : IntType) (half : ℕ) (low : least_of t ≡ neg_ℤ (pos half)) (high : greatest_of t ≡ pos (half - 1)) (some : 1 ≤ half) where
  signed_above : (m r : ℕ) → r < m → m ≤ half + half → nat_le (m / 2) r ≡ true → InRange t (negsuc (m - 1 - r))
  signed_above m r h g e = let l : m / 2 ≤ r = grind arith in record { low = rw low (omega (arith, ints)); high = rw high (omega (arith, ints)) }

  signed_below : (m r : ℕ) → m ≤ half + half → nat_le (m / 2) r ≡ false → InRange t (pos r)
  signed_below m r g e = let l : r < m / 2 = grind arith in record { low = rw low (omega (arith, ints)); high = rw high (omega (arith, ints)) }

  signed_placed : (m r : ℕ) → r < m → m ≤ half + half → InRange t (placed true m r)
  signed_placed m r h g = tested (nat_le (m / 2) r) refl
    where
      tested : (b : Bool) → nat_le (m / 2) r ≡ b → InRange t (if b then negsuc (m - 1 - r) else pos r)
      tested true e = signed_above m r h g e
      tested false e = signed_below m r g e

pub placed_in : (t : IntType) (m r : ℕ) → r < m → m ≤ modulus_of t → InRange t (placed (is_signed_of t) m r)
placed_in SChar m r h g = signed_placed SChar 128 refl refl (omega arith) m r h g
placed_in UChar m r h g = unsigned_placed UChar m r refl h g
placed_in Short m r h g = signed_placed Short 32768 refl refl (omega arith) m r h g
placed_in UShort m r h g = unsigned_placed UShort m r refl h g
placed_in Int m r h g = signed_placed Int 32768 refl refl (omega arith) m r h g
placed_in UInt m r h g = unsigned_placed UInt m r refl h g
placed_in Long m r h g = signed_placed Long 2147483648 refl refl (omega arith) m r h g
placed_in ULong m r h g = unsigned_placed ULong m r refl h g

some : (t : IntType) → 0 < modulus_of t
some SChar = omega arith
some UChar = omega arith
some Short = omega arith
some UShort = omega arith
some Int = omega arith
some UInt = omega arith
some Long = omega arith
some ULong = omega arith

residue_below : (m : ℕ) (z : ℤ) → 0 < m → residue m z < m
residue_below m (pos n) h = omega arith
residue_below m (negsuc n) h = omega arith

pub wrap_in : (t : IntType) (z : ℤ) → InRange t (wrap_of t z)
wrap_in t z = placed_in t (modulus_of t) (residue (modulus_of t) z) (residue_below (modulus_of t) z (some t)) (omega arith)

-- ---- between 0 and a number of the type

around : (t : IntType) → (least_of t ≤ℤ pos 0) × (pos 0 ≤ℤ greatest_of t)
around SChar = (omega (arith, ints), omega (arith, ints))
around UChar = (omega (arith, ints), omega (arith, ints))
around Short = (omega (arith, ints), omega (arith, ints))
around UShort = (omega (arith, ints), omega (arith, ints))
around Int = (omega (arith, ints), omega (arith, ints))
around UInt = (omega (arith, ints), omega (arith, ints))
around Long = (omega (arith, ints), omega (arith, ints))
around ULong = (omega (arith, ints), omega (arith, ints))

pub zero_in : (t : IntType) → InRange t (pos 0)
zero_in t = record { low = (around t).0; high = (around t).1 }

record Between (a r : ℤ) : Type 0 where
  below : (z : ℤ) → pos 0 ≤ℤ z → a ≤ℤ z → r ≤ℤ z
  above : (z : ℤ) → z ≤ℤ pos 0 → z ≤ℤ a → z ≤ℤ r

in_between : (t : IntType) (a r : ℤ) → Between a r → InRange t a → InRange t r
in_between t a r b h = record { low = b.above (least_of t) (around t).0 h.low; high = b.below (greatest_of t) (around t).1 h.high }

remainder_between : (a b : ℤ) → 0 < unsigned_abs b → Between a (int_rem a b)
remainder_between (pos n) b h = let e : n % unsigned_abs b ≤ n = omega arith in record { below = λ z p q. omega (arith, ints); above = λ z p q. omega (arith, ints) }
remainder_between (negsuc n) b h = let e : suc n % unsigned_abs b ≤ suc n = omega arith in record { below = λ z p q. omega (arith, ints); above = λ z p q. omega (arith, ints) }

remainder_is : (a b : ℤ) → int_rem a b ≡ a -ℤ b *ℤ cut a b
remainder_is a b = rw (*ℤ_comm b (int_div a b)) (from_sum a (int_div a b *ℤ b) (int_rem a b) (quot-rem a b))
  where
    from_sum : (a x r : ℤ) → x +ℤ r ≡ a → r ≡ a -ℤ x
    from_sum a x r e = omega (arith, ints)

rem_in : (t : IntType) (a b : ℤ) → 0 < unsigned_abs b → InRange t a → InRange t (a -ℤ b *ℤ cut a b)
rem_in t a b h r = subst (InRange t) (remainder_is a b) (in_between t a (int_rem a b) (remainder_between a b h) r)

floor_between : (a : ℤ) (m : ℕ) → Between a (floor_of a m)
floor_between (pos n) m = let e : n / m ≤ n = div-le_self n m in record { below = λ z p q. omega (arith, ints); above = λ z p q. omega (arith, ints) }
floor_between (negsuc n) m = let e : n / m ≤ n = div-le_self n m in record { below = λ z p q. omega (arith, ints); above = λ z p q. omega (arith, ints) }

-- ---- results that may be missing

pub quotient_in : (t : IntType) (a b z : ℤ) → quotient_of t a b ≡ Some z → InRange t z
quotient_in t a (pos zero) z e = absurd (cc)
quotient_in t a (pos (suc n)) z e = let same : wrap_of t (cut a (pos (suc n))) ≡ z = cc in subst (InRange t) same (wrap_in t (cut a (pos (suc n))))
quotient_in t a (negsuc n) z e = let same : wrap_of t (cut a (negsuc n)) ≡ z = cc in subst (InRange t) same (wrap_in t (cut a (negsuc n)))

pub remainder_in : (t : IntType) (a b z : ℤ) → InRange t a → remainder_of a b ≡ Some z → InRange t z
remainder_in t a (pos zero) z r e = absurd (cc)
remainder_in t a (pos (suc n)) z r e = let same : a -ℤ pos (suc n) *ℤ cut a (pos (suc n)) ≡ z = cc in subst (InRange t) same (rem_in t a (pos (suc n)) (omega arith) r)
remainder_in t a (negsuc n) z r e = let same : a -ℤ negsuc n *ℤ cut a (negsuc n) ≡ z = cc in subst (InRange t) same (rem_in t a (negsuc n) (omega arith) r)

made_in : (t : IntType) (o : Option ℕ) (f : ℕ → ℤ) (z : ℤ) → ((c : ℕ) → InRange t (f c)) → option_map f o ≡ Some z → InRange t z
made_in t None f z h e = absurd (cc)
made_in t (Some c) f z h e = let same : f c ≡ z = cc in subst (InRange t) same (h c)

pub left_in : (t : IntType) (a c z : ℤ) → shifted_left_of t a c ≡ Some z → InRange t z
left_in t a c z e = made_in t (count_of t c) _ z (λ n. wrap_in t (a *ℤ pos (2 ^ n))) e

pub right_in : (t : IntType) (a c z : ℤ) → InRange t a → shifted_right_of t a c ≡ Some z → InRange t z
right_in t a c z r e = made_in t (count_of t c) _ z (λ n. in_between t a (floor_of a (2 ^ n)) (floor_between a (2 ^ n)) r) e

-- ---- small numbers

quotient_abs : (a b : ℤ) → unsigned_abs (int_div a b) ≤ unsigned_abs a
quotient_abs (pos a) (pos b) = omega (arith, div-le_self a b)
quotient_abs (pos a) (negsuc b) = omega (arith, ints, div-le_self a (suc b))
quotient_abs (negsuc a) (pos b) = omega (arith, ints, div-le_self (suc a) b)
quotient_abs (negsuc a) (negsuc b) = omega (arith, div-le_self (suc a) (suc b))

small_in : (z : ℤ) → unsigned_abs z ≤ 32767 → InRange Int z
small_in (pos n) h = record { low = omega (arith, ints); high = omega (arith, ints) }
small_in (negsuc n) h = record { low = omega (arith, ints); high = omega (arith, ints) }

pub elements_in : (d b : ℤ) → unsigned_abs d ≤ 32767 → InRange Int (int_div d b)
elements_in d b h = let e : unsigned_abs (int_div d b) ≤ unsigned_abs d = quotient_abs d b in small_in (int_div d b) (omega arith)
