-- The value of an operator lies in the range of the operator's type.
use Rattle.std.proofs.Common.{◌≡◌, ℕ, zero, suc, ◌^◌, ◌<◌, ℤ, pos, negsuc, ◌*ℤ◌, int_lt, int_le, Bool, true, false, not, ◌&&◌, Option, Some, None, option_map, refl, ◌∙◌, subst, arith, w64, of_z, FitsSigned, bit_and, bit_or, bit_xor}
use Rattle.std.proofs.lemmas.Int.{ints}
use Rattle.std.proofs.lemmas.Bool.Decides.{nat_tests}
use Rattle.c65_base.specs.declared.operators.UnaryOp.{UnaryOp}
use Rattle.c65_base.specs.declared.operators.UnaryOp.TheVariants as ones
use Rattle.c65_base.specs.declared.operators.BinaryOp.{BinaryOp}
use Rattle.c65_base.specs.declared.operators.BinaryOp.TheVariants as ops
use Rattle.c65_ints.specs.declared.types.IntType.{IntType}
use Rattle.c65_ints.specs.declared.types.IntType.TheVariants.{SChar, UChar, Short, UShort, Int, UInt, Long, ULong}
use Rattle.c65_ints.specs.Ranges.{modulus_of, wrap_of, InRange, residue, placed}
use Rattle.c65_ints.specs.Results.{cut, quotient_of, remainder_of, count_of, floor_of}
use Rattle.c65_ints.proofs.Wraps.{remainder_given, remainder_in_range, floored_in_range}
use Rattle.c65_fold.specs.Compute.{is_zero, truth, unary_value, computed, binary_value}

residue_below : (m : ℕ) (z : ℤ) → 0 < m → residue m z < m
residue_below m (pos n) h = omega arith
residue_below m (negsuc n) h = omega arith

pub wrap_in_range : (t : IntType) (z : ℤ) → InRange t (wrap_of t z)
wrap_in_range UChar z = let h : residue 256 z < 256 = residue_below 256 z (omega arith) in record { low = omega (arith, ints); high = omega (arith, ints) }
wrap_in_range UShort z = let h : residue 65536 z < 65536 = residue_below 65536 z (omega arith) in record { low = omega (arith, ints); high = omega (arith, ints) }
wrap_in_range UInt z = let h : residue 65536 z < 65536 = residue_below 65536 z (omega arith) in record { low = omega (arith, ints); high = omega (arith, ints) }
wrap_in_range ULong z = let h : residue 4294967296 z < 4294967296 = residue_below 4294967296 z (omega arith) in record { low = omega (arith, ints); high = omega (arith, ints) }
wrap_in_range SChar z = byte (residue 256 z) (residue_below 256 z (omega arith))
  where
    byte : (r : ℕ) → r < 256 → InRange SChar (placed true 256 r)
    byte r h = record { low = grind (arith, ints, nat_tests); high = grind (arith, ints, nat_tests) }
wrap_in_range Short z = word (residue 65536 z) (residue_below 65536 z (omega arith))
  where
    word : (r : ℕ) → r < 65536 → InRange Short (placed true 65536 r)
    word r h = record { low = grind (arith, ints, nat_tests); high = grind (arith, ints, nat_tests) }
wrap_in_range Int z = word (residue 65536 z) (residue_below 65536 z (omega arith))
  where
    word : (r : ℕ) → r < 65536 → InRange Int (placed true 65536 r)
    word r h = record { low = grind (arith, ints, nat_tests); high = grind (arith, ints, nat_tests) }
wrap_in_range Long z = long (residue 4294967296 z) (residue_below 4294967296 z (omega arith))
  where
    long : (r : ℕ) → r < 4294967296 → InRange Long (placed true 4294967296 r)
    long r h = record { low = grind (arith, ints, nat_tests); high = grind (arith, ints, nat_tests) }

small_in_range : (t : IntType) (n : ℕ) → n < 2 → InRange t (pos n)
small_in_range SChar n h = record { low = omega (arith, ints); high = omega (arith, ints) }
small_in_range UChar n h = record { low = omega (arith, ints); high = omega (arith, ints) }
small_in_range Short n h = record { low = omega (arith, ints); high = omega (arith, ints) }
small_in_range UShort n h = record { low = omega (arith, ints); high = omega (arith, ints) }
small_in_range Int n h = record { low = omega (arith, ints); high = omega (arith, ints) }
small_in_range UInt n h = record { low = omega (arith, ints); high = omega (arith, ints) }
small_in_range Long n h = record { low = omega (arith, ints); high = omega (arith, ints) }
small_in_range ULong n h = record { low = omega (arith, ints); high = omega (arith, ints) }

pub truth_in_range : (t : IntType) (b : Bool) → InRange t (truth b)
truth_in_range t true = small_in_range t 1 (omega arith)
truth_in_range t false = small_in_range t 0 (omega arith)

-- what a defined value is
pub some_is : {A : Type 0} → (x y : A) → Some x ≡ Some y → x ≡ y
some_is x y h = cc

pub in_range_by : (t : IntType) (x z : ℤ) → Some x ≡ Some z → InRange t x → InRange t z
in_range_by t x z h w = let P : ℤ → Type 0 = InRange t in subst P (some_is x z h) w

fits : (t : IntType) (z : ℤ) → InRange t z → FitsSigned w64 z
fits SChar z r = grind (arith, ints, r.low, r.high)
fits UChar z r = grind (arith, ints, r.low, r.high)
fits Short z r = grind (arith, ints, r.low, r.high)
fits UShort z r = grind (arith, ints, r.low, r.high)
fits Int z r = grind (arith, ints, r.low, r.high)
fits UInt z r = grind (arith, ints, r.low, r.high)
fits Long z r = grind (arith, ints, r.low, r.high)
fits ULong z r = grind (arith, ints, r.low, r.high)

quotient_in_range : (t : IntType) (a b z : ℤ) → quotient_of t a b ≡ Some z → InRange t z
quotient_in_range t a (pos zero) z h = cc
quotient_in_range t a (pos (suc n)) z h = in_range_by t _ z h (wrap_in_range t (cut a (pos (suc n))))
quotient_in_range t a (negsuc n) z h = in_range_by t _ z h (wrap_in_range t (cut a (negsuc n)))

remainder_within : (t : IntType) (a b z : ℤ) → (of_z w64 b ≡ 0 → ⊥) → InRange t a → InRange t b → remainder_of a b ≡ Some z → InRange t z
remainder_within t a b z k va vb h =
    let fa = fits t a va in
    let fb = fits t b vb in
    in_range_by t _ z (remainder_given a b fa fb k ∙ h) (remainder_in_range t a b fa fb k va)

some_of_z : (b : ℤ) → FitsSigned w64 b → (b ≡ pos 0 → ⊥) → of_z w64 b ≡ 0 → ⊥
some_of_z b f h k = grind (arith, ints)

remainder_of_range : (t : IntType) (a b z : ℤ) → InRange t a → InRange t b → remainder_of a b ≡ Some z → InRange t z
remainder_of_range t a (pos zero) z va vb h = cc
remainder_of_range t a (pos (suc n)) z va vb h = remainder_within t a (pos (suc n)) z (some_of_z (pos (suc n)) (fits t (pos (suc n)) vb) (λ e. omega (arith, ints))) va vb h
remainder_of_range t a (negsuc n) z va vb h = remainder_within t a (negsuc n) z (some_of_z (negsuc n) (fits t (negsuc n) vb) (λ e. omega (arith, ints))) va vb h

left_by : (t : IntType) (a z : ℤ) (o : Option ℕ) → option_map (λ c. wrap_of t (a *ℤ pos (2 ^ c))) o ≡ Some z → InRange t z
left_by t a z None h = cc
left_by t a z (Some c) h = in_range_by t _ z h (wrap_in_range t (a *ℤ pos (2 ^ c)))

right_by : (t : IntType) (a z : ℤ) (o : Option ℕ) → InRange t a → option_map (λ c. floor_of a (2 ^ c)) o ≡ Some z → InRange t z
right_by t a z None w h = cc
right_by t a z (Some c) w h = in_range_by t _ z h (floored_in_range t a c _ w refl)

computed_in_range : (op : BinaryOp) (t : IntType) (a b x y z : ℤ) → InRange t a → InRange t b → computed op t a b x y ≡ Some z → InRange t z
computed_in_range ops.Mul t a b x y z va vb h = in_range_by t _ z h (wrap_in_range t _)
computed_in_range ops.Div t a b x y z va vb h = quotient_in_range t a b z h
computed_in_range ops.Rem t a b x y z va vb h = remainder_of_range t a b z va vb h
computed_in_range ops.Add t a b x y z va vb h = in_range_by t _ z h (wrap_in_range t _)
computed_in_range ops.Sub t a b x y z va vb h = in_range_by t _ z h (wrap_in_range t _)
computed_in_range ops.Shl t a b x y z va vb h = left_by t a z (count_of t y) h
computed_in_range ops.Shr t a b x y z va vb h = right_by t a z (count_of t y) va h
computed_in_range ops.Lt t a b x y z va vb h = in_range_by t _ z h (truth_in_range t (int_lt x y))
computed_in_range ops.Gt t a b x y z va vb h = in_range_by t _ z h (truth_in_range t (int_lt y x))
computed_in_range ops.Le t a b x y z va vb h = in_range_by t _ z h (truth_in_range t (int_le x y))
computed_in_range ops.Ge t a b x y z va vb h = in_range_by t _ z h (truth_in_range t (int_le y x))
computed_in_range ops.Eq t a b x y z va vb h = in_range_by t _ z h (truth_in_range t (int_le x y && int_le y x))
computed_in_range ops.Ne t a b x y z va vb h = in_range_by t _ z h (truth_in_range t (not (int_le x y && int_le y x)))
computed_in_range ops.BitAnd t a b x y z va vb h = in_range_by t _ z h (wrap_in_range t (pos (bit_and (residue (modulus_of t) x) (residue (modulus_of t) y))))
computed_in_range ops.BitXor t a b x y z va vb h = in_range_by t _ z h (wrap_in_range t (pos (bit_xor (residue (modulus_of t) x) (residue (modulus_of t) y))))
computed_in_range ops.BitOr t a b x y z va vb h = in_range_by t _ z h (wrap_in_range t (pos (bit_or (residue (modulus_of t) x) (residue (modulus_of t) y))))

pub binary_in_range : (op : BinaryOp) (t : IntType) (x y z : ℤ) → binary_value op t x y ≡ Some z → InRange t z
binary_in_range op t x y z h = computed_in_range op t (wrap_of t x) (wrap_of t y) x y z (wrap_in_range t x) (wrap_in_range t y) h

pub unary_in_range : (op : UnaryOp) (t : IntType) (x z : ℤ) → unary_value op t x ≡ Some z → InRange t z
unary_in_range ones.Neg t x z h = in_range_by t _ z h (wrap_in_range t _)
unary_in_range ones.BitNot t x z h = in_range_by t _ z h (wrap_in_range t _)
unary_in_range ones.Not t x z h = in_range_by t _ z h (truth_in_range t (is_zero x))
unary_in_range _ t x z h = cc
