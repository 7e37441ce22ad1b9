-- What a call on a computed number says, and that a wrapped number is congruent to what it was made of.
use Rattle.std.proofs.Common.{◌≡◌, ℕ, zero, suc, ◌+◌, ◌-◌, ◌*◌, ◌/◌, ◌%◌, ◌<◌, ◌≤◌, ◌^◌, ℤ, pos, negsuc, neg_ℤ, ◌≤ℤ◌, ◌+ℤ◌, ◌-ℤ◌, ◌*ℤ◌, unsigned_abs, int_div, int_rem, Bool, true, false, nat_le, if◌then◌else◌, Some, option_map, refl, subst, sym, ◌∙◌, ap, arith, w64, of_z, to_z, FitsSigned}
use Rattle.std.proofs.lemmas.Int.{to_z-of_z, ints, fits_signed_mul, quot-rem, rem_is, fits_signed_from_abs}
use lib.IntN.{suc_ℤ, suc_ℤ-*ℤ, *ℤ_comm}
use Rattle.c65_ints.specs.declared.types.IntType.{IntType}
use Rattle.c65_ints.specs.declared.types.IntType.TheVariants.{SChar, UChar, Short, UShort, Int, UInt, Long, ULong}
use Rattle.c65_ints.specs.Ranges.{modulus_of, is_signed_of, residue, placed, wrap_of, least_of, greatest_of, InRange, Congruent}
use Rattle.c65_ints.specs.Results.{quotient_of, remainder_of, floor_of, count_of, shifted_left_of}
use Rattle.std.proofs.Math.Nat.{pow-le-pow_right, div-le_self}

abbrev bits_of : ℤ → ℤ
bits_of z = to_z w64 (of_z w64 z)

pub of_wrap : (op : ℤ → ℤ → ℤ) (t : IntType) (a b r : ℤ) → FitsSigned w64 a → FitsSigned w64 b → FitsSigned w64 (op a b) → FitsSigned w64 r → r ≡ wrap_of t (bits_of (op (bits_of a) (bits_of b))) → bits_of r ≡ wrap_of t (op a b)
of_wrap op t a b r fa fb f g e =
    let ea : bits_of a ≡ a = to_z-of_z w64 a fa in
    let eb : bits_of b ≡ b = to_z-of_z w64 b fb in
    let inner : op (bits_of a) (bits_of b) ≡ op a b = ap (λ x. op x (bits_of b)) ea ∙ ap (op a) eb in
    to_z-of_z w64 r g ∙ e ∙ ap (wrap_of t) (ap bits_of inner ∙ to_z-of_z w64 (op a b) f)

-- the same, for the call's result alone
pub made_of : (op : ℤ → ℤ → ℤ) (t : IntType) (a b r : ℤ) → FitsSigned w64 a → FitsSigned w64 b → FitsSigned w64 (op a b) → r ≡ wrap_of t (bits_of (op (bits_of a) (bits_of b))) → r ≡ wrap_of t (op a b)
made_of op t a b r fa fb f e =
    let ea : bits_of a ≡ a = to_z-of_z w64 a fa in
    let eb : bits_of b ≡ b = to_z-of_z w64 b fb in
    let inner : op (bits_of a) (bits_of b) ≡ op a b = ap (λ x. op x (bits_of b)) ea ∙ ap (op a) eb in
    e ∙ ap (wrap_of t) (ap bits_of inner ∙ to_z-of_z w64 (op a b) f)

range_abs : (t : IntType) (z : ℤ) → (t ≡ ULong → ⊥) → InRange t z → unsigned_abs z ≤ 2147483648
range_abs SChar z h r = grind (arith, ints, r.low, r.high)
range_abs UChar z h r = grind (arith, ints, r.low, r.high)
range_abs Short z h r = grind (arith, ints, r.low, r.high)
range_abs UShort z h r = grind (arith, ints, r.low, r.high)
range_abs Int z h r = grind (arith, ints, r.low, r.high)
range_abs UInt z h r = grind (arith, ints, r.low, r.high)
range_abs Long z h r = grind (arith, ints, r.low, r.high)
range_abs ULong z h r = absurd (h refl)

pub product_fits : (t : IntType) (a b : ℤ) → (t ≡ ULong → ⊥) → InRange t a → InRange t b → FitsSigned w64 (a *ℤ b)
product_fits t a b h p q = fits_signed_mul w64 a b 2147483648 2147483648 (range_abs t a h p) (range_abs t b h q) (omega arith)

abs_within : (t : IntType) (z : ℤ) → InRange t z → unsigned_abs z ≤ 4294967295
abs_within SChar z r = grind (arith, ints, r.low, r.high)
abs_within UChar z r = grind (arith, ints, r.low, r.high)
abs_within Short z r = grind (arith, ints, r.low, r.high)
abs_within UShort z r = grind (arith, ints, r.low, r.high)
abs_within Int z r = grind (arith, ints, r.low, r.high)
abs_within UInt z r = grind (arith, ints, r.low, r.high)
abs_within Long z r = grind (arith, ints, r.low, r.high)
abs_within ULong z r = grind (arith, ints, r.low, r.high)

pub raised_fits : (t : IntType) (a : ℤ) (m : ℕ) → InRange t a → m ≤ 2147483648 → FitsSigned w64 (a *ℤ pos m)
raised_fits t a m r h = fits_signed_mul w64 a (pos m) 4294967295 2147483648 (abs_within t a r) h (omega arith)

-- a number is its remainder and a multiple of m
record Divided (m : ℕ) (z : ℤ) : Type 0 where
  times : ℤ
  is : z ≡ pos (residue m z) +ℤ times *ℤ pos m

divided : (m : ℕ) (z : ℤ) → 0 < m → Divided m z
divided m (pos n) h = record { times = pos (n / m); is = ap pos (omega arith) }
divided m (negsuc n) h = record { times = negsuc (n / m); is = below m n (n / m) (n % m) h (omega arith) (omega arith) }
  where
    below : (m n q r : ℕ) → 0 < m → r < m → n ≡ q * m + r → negsuc n ≡ pos (m - 1 - r) +ℤ neg_ℤ (pos (suc q * m))
    below m n q r h g e = let p : suc q * m ≡ q * m + m = omega arith in rw p (omega (arith, ints))

raised : (m r : ℕ) (x : ℤ) → r < m → pos r +ℤ x ≡ negsuc (m - 1 - r) +ℤ (x +ℤ pos m)
raised m r x h = omega (arith, ints)

record Placed (m : ℕ) (z y : ℤ) : Type 0 where
  times : ℤ
  is : z ≡ y +ℤ times *ℤ pos m

residue_below : (m : ℕ) (z : ℤ) → 0 < m → residue m z < m
residue_below m (pos n) h = omega arith
residue_below m (negsuc n) h = omega arith

placed_congruent : (s : Bool) (m : ℕ) (z : ℤ) → 0 < m → Placed m z (placed s m (residue m z))
placed_congruent false m z h = let d = divided m z h in record { times = d.times; is = d.is }
placed_congruent true m z h = tested (nat_le (m / 2) (residue m z))
  where
    tested : (b : Bool) → Placed m z (if b then negsuc (m - 1 - residue m z) else pos (residue m z))
    tested false = let d = divided m z h in record { times = d.times; is = d.is }
    tested true =
        let d = divided m z h in
        record { times = suc_ℤ d.times; is = d.is ∙ raised m (residue m z) (d.times *ℤ pos m) (residue_below m z h) ∙ ap (λ x. negsuc (m - 1 - residue m z) +ℤ x) (sym (suc_ℤ-*ℤ d.times (pos m))) }

some : (t : IntType) → 0 < modulus_of t
some SChar = omega arith
some UChar = omega arith
some Short = omega arith
some UShort = omega arith
some Int = omega arith
some UInt = omega arith
some Long = omega arith
some ULong = omega arith

-- a wrapped number differs from what it was made of by a multiple of the modulus
pub congruent_of : (t : IntType) (z r : ℤ) → r ≡ wrap_of t z → Congruent t z r
congruent_of t z r e =
    let p = placed_congruent (is_signed_of t) (modulus_of t) z (some t) in
    let P : ℤ → Type 0 = Congruent t z in
    subst P (sym e) (record { times = p.times; differ = p.is })

quotient_abs : (a b : ℤ) → unsigned_abs (int_div a b) ≤ unsigned_abs a
quotient_abs (pos a) (pos b) = omega (arith, div-le_self a b)
quotient_abs (pos a) (negsuc b) = omega (arith, ints, div-le_self a (suc b))
quotient_abs (negsuc a) (pos b) = omega (arith, ints, div-le_self (suc a) b)
quotient_abs (negsuc a) (negsuc b) = omega (arith, div-le_self (suc a) (suc b))

pub quotient_fits : (t : IntType) (a b : ℤ) → InRange t a → FitsSigned w64 (int_div a b)
quotient_fits t a b r = fits_signed_from_abs w64 (int_div a b) (omega (arith, quotient_abs a b, abs_within t a r))

pub quotient_given : (t : IntType) (a b r : ℤ) → FitsSigned w64 a → FitsSigned w64 b → FitsSigned w64 (int_div a b) → FitsSigned w64 r → (of_z w64 b ≡ 0 → ⊥) → r ≡ wrap_of t (bits_of (int_div (bits_of a) (bits_of b))) → Some (bits_of r) ≡ quotient_of t a b
quotient_given t a (pos zero) r fa fb f g h e = absurd (h refl)
quotient_given t a (pos (suc n)) r fa fb f g h e = ap Some (of_wrap int_div t a (pos (suc n)) r fa fb f g e)
quotient_given t a (negsuc n) r fa fb f g h e = ap Some (of_wrap int_div t a (negsuc n) r fa fb f g e)

remainder_is : (a b : ℤ) → int_rem a b ≡ a -ℤ b *ℤ int_div a b
remainder_is a b = rw (*ℤ_comm b (int_div a b)) (from_sum a (int_div a b *ℤ b) (int_rem a b) (quot-rem a b))
  where
    from_sum : (a x r : ℤ) → x +ℤ r ≡ a → r ≡ a -ℤ x
    from_sum a x r e = omega (arith, ints)

pub remainder_given : (a b : ℤ) → FitsSigned w64 a → FitsSigned w64 b → (of_z w64 b ≡ 0 → ⊥) → Some (bits_of (int_rem (bits_of a) (bits_of b))) ≡ remainder_of a b
remainder_given a (pos zero) fa fb h = absurd (h refl)
remainder_given a (pos (suc n)) fa fb h = ap Some (rem_is w64 a (pos (suc n)) fa fb ∙ remainder_is a (pos (suc n)))
remainder_given a (negsuc n) fa fb h = ap Some (rem_is w64 a (negsuc n) fa fb ∙ remainder_is a (negsuc n))

record Between (a r : ℤ) : Type 0 where
  below : (z : ℤ) → pos 0 ≤ℤ z → a ≤ℤ z → r ≤ℤ z
  above : (z : ℤ) → z ≤ℤ pos 0 → z ≤ℤ a → z ≤ℤ r

-- a remainder lies between 0 and the dividend
between : (a b : ℤ) → 0 < unsigned_abs b → Between a (int_rem a b)
between (pos n) b h = let e : n % unsigned_abs b ≤ n = omega arith in record { below = λ z p q. omega (arith, ints); above = λ z p q. omega (arith, ints) }
between (negsuc n) b h = let e : suc n % unsigned_abs b ≤ suc n = omega arith in record { below = λ z p q. omega (arith, ints); above = λ z p q. omega (arith, ints) }

around : (t : IntType) → (least_of t ≤ℤ pos 0) × (pos 0 ≤ℤ greatest_of t)
around SChar = (omega (arith, ints), omega (arith, ints))
around UChar = (omega (arith, ints), omega (arith, ints))
around Short = (omega (arith, ints), omega (arith, ints))
around UShort = (omega (arith, ints), omega (arith, ints))
around Int = (omega (arith, ints), omega (arith, ints))
around UInt = (omega (arith, ints), omega (arith, ints))
around Long = (omega (arith, ints), omega (arith, ints))
around ULong = (omega (arith, ints), omega (arith, ints))

rem_in_range : (t : IntType) (a b : ℤ) → 0 < unsigned_abs b → InRange t a → InRange t (int_rem a b)
rem_in_range t a b h r =
    let e = between a b h in
    record { low = e.above (least_of t) (around t).0 r.low; high = e.below (greatest_of t) (around t).1 r.high }

floor_between : (z : ℤ) (m : ℕ) → Between z (floor_of z m)
floor_between (pos n) m = let e = div-le_self n m in record { below = λ z p q. omega (arith, ints); above = λ z p q. omega (arith, ints) }
floor_between (negsuc n) m = let e = div-le_self n m in record { below = λ z p q. omega (arith, ints); above = λ z p q. omega (arith, ints) }

floor_in_range : (t : IntType) (a : ℤ) (m : ℕ) → InRange t a → InRange t (floor_of a m)
floor_in_range t a m r =
    let e = floor_between a m in
    record { low = e.above (least_of t) (around t).0 r.low; high = e.below (greatest_of t) (around t).1 r.high }

some_abs : (b : ℤ) → (of_z w64 b ≡ 0 → ⊥) → 0 < unsigned_abs b
some_abs (pos zero) h = absurd (h refl)
some_abs (pos (suc n)) h = omega arith
some_abs (negsuc n) h = omega arith

pub remainder_in_range : (t : IntType) (a b : ℤ) → FitsSigned w64 a → FitsSigned w64 b → (of_z w64 b ≡ 0 → ⊥) → InRange t a → InRange t (bits_of (int_rem (bits_of a) (bits_of b)))
remainder_in_range t a b fa fb h r =
    let P : ℤ → Type 0 = InRange t in
    subst P (sym (rem_is w64 a b fa fb)) (rem_in_range t a b (some_abs b h) r)

power_small : (k : ℕ) → k < 32 → 2 ^ k ≤ 2147483648
power_small k h = pow-le-pow_right {n = 2} (omega arith) {i = k} {j = 31} (omega arith)

pub raised_by : (t : IntType) (a p : ℤ) (k : ℕ) → FitsSigned w64 a → InRange t a → k < 32 → p ≡ pos (2 ^ k) → FitsSigned w64 (bits_of a *ℤ bits_of p)
raised_by t a p k fa r h e =
    let P : ℤ → Type 0 = FitsSigned w64 in
    let fp : FitsSigned w64 p = subst P (sym e) (to_fit (2 ^ k) (power_small k h)) in
    let m : FitsSigned w64 (a *ℤ p) = subst (λ x. FitsSigned w64 (a *ℤ x)) (sym e) (raised_fits t a (2 ^ k) r (power_small k h)) in
    subst P (sym (ap (λ x. x *ℤ bits_of p) (to_z-of_z w64 a fa) ∙ ap (λ x. a *ℤ x) (to_z-of_z w64 p fp))) m
  where
    to_fit : (n : ℕ) → n ≤ 2147483648 → FitsSigned w64 (pos n)
    to_fit n h = omega (arith, ints)

pub shifted_given : (t : IntType) (a p : ℤ) (k : ℕ) (r : ℤ) → FitsSigned w64 a → InRange t a → k < 32 → p ≡ pos (2 ^ k) → FitsSigned w64 r → r ≡ wrap_of t (bits_of (bits_of a *ℤ bits_of p)) → (n : ℤ) → FitsSigned w64 n → Some k ≡ count_of t (bits_of n) → Some (bits_of r) ≡ shifted_left_of t a n
shifted_given t a p k r fa i h e g w n fn s =
    let P : ℤ → Type 0 = FitsSigned w64 in
    let fp : FitsSigned w64 p = subst P (sym e) (to_fit (2 ^ k) (power_small k h)) in
    let m : FitsSigned w64 (a *ℤ p) = subst (λ x. FitsSigned w64 (a *ℤ x)) (sym e) (raised_fits t a (2 ^ k) i (power_small k h)) in
    ap Some (of_wrap ◌*ℤ◌ t a p r fa fp m g w ∙ ap (λ x. wrap_of t (a *ℤ x)) e) ∙ ap (option_map (λ c. wrap_of t (a *ℤ pos (2 ^ c)))) (s ∙ ap (count_of t) (to_z-of_z w64 n fn))
  where
    to_fit : (n : ℕ) → n ≤ 2147483648 → FitsSigned w64 (pos n)
    to_fit n h = omega (arith, ints)

pub floored_in_range : (t : IntType) (a : ℤ) (k : ℕ) (r : ℤ) → InRange t a → r ≡ floor_of a (2 ^ k) → InRange t r
floored_in_range t a k r i e = let P : ℤ → Type 0 = InRange t in subst P (sym e) (floor_in_range t a (2 ^ k) i)
