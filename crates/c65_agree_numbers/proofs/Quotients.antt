-- Quotients and remainders of numbers as those of their words (C90 6.3.5).
use Rattle.std.proofs.Common.{◌≡◌, ℕ, zero, suc, ◌+◌, ◌-◌, ◌/◌, ◌%◌, ◌<◌, ◌≤◌, ℤ, pos, negsuc, neg_ℤ, ◌+ℤ◌, ◌-ℤ◌, ◌*ℤ◌, unsigned_abs, int_div, int_rem, Bool, true, false, refl, sym, ap, ◌∙◌, arith}
use Rattle.std.specs.Prelude.{not, if◌then◌else◌, Some, None}
use Rattle.std.specs.Bool.{beq}
use Rattle.std.proofs.lemmas.Int.{ints, quot-rem}
use Rattle.std.proofs.lemmas.Bool.Decides.{nat_tests}
use Rattle.std.proofs.Math.Nat.{mod-eq_of_lt, mod-le, div-le_self}
use lib.IntN.{*ℤ_comm}
use Rattle.c65_base.specs.declared.operators.BinaryOp.TheVariants.{Div, Rem}
use Rattle.c65_ints.specs.Ranges.{residue}
use Rattle.c65_ints.specs.Results.{cut}
use Rattle.c65_code.specs.declared.routine.Width.{Width}
use Rattle.c65_code.specs.declared.routine.Width.TheVariants.{Ax, Eax}
use Rattle.c65_code.specs.Numbers.{words_of, sign_of, is_negative, magnitude, with_sign, signed_quotient, signed_remainder, divided, tos_result}
use Rattle.c65_genwide.specs.Wide.{tos_of}
use Rattle.c65_agree_numbers.proofs.Residues.{minus_of_word}
use Rattle.c65_agree_numbers.proofs.Ranges.{Within}
use Rattle.c65_agree_numbers.proofs.Tests.{unequal}

abbrev below_zero : ℤ → Bool
below_zero (pos n) = false
below_zero (negsuc n) = true

sign_is : (width : Width) (z : ℤ) → Within true width z → is_negative width (residue (words_of width) z) ≡ below_zero z
sign_is Ax (pos n) h = grind (arith, nat_tests)
sign_is Ax (negsuc n) h = grind (arith, nat_tests)
sign_is Eax (pos n) h = grind (arith, nat_tests)
sign_is Eax (negsuc n) h = grind (arith, nat_tests)

by_sign : (width : Width) (z : ℤ) → Within true width z → (if below_zero z then words_of width - residue (words_of width) z else residue (words_of width) z) ≡ unsigned_abs z
by_sign Ax (pos n) h = omega (arith, h)
by_sign Ax (negsuc n) h = omega (arith, h)
by_sign Eax (pos n) h = omega (arith, h)
by_sign Eax (negsuc n) h = omega (arith, h)

magnitude_is : (width : Width) (z : ℤ) → Within true width z → magnitude width (residue (words_of width) z) ≡ unsigned_abs z
magnitude_is width z h = ap (λ b. if b then words_of width - residue (words_of width) z else residue (words_of width) z) (sign_is width z h) ∙ by_sign width z h

positive : (width : Width) (q : ℕ) → q < words_of width → q ≡ residue (words_of width) (pos q)
positive width q h = sym (mod-eq_of_lt h)

negative : (width : Width) (q : ℕ) → q < words_of width → with_sign width true q ≡ residue (words_of width) (neg_ℤ (pos q))
negative width q h = ap (λ x. (words_of width - x) % words_of width) (positive width q h) ∙ sym (minus_of_word width (pos q))

half : (width : Width) → sign_of width + 1 ≤ words_of width
half Ax = omega arith
half Eax = omega arith

small : (width : Width) (m n : ℕ) → m ≤ sign_of width → m / n < words_of width
small width m n h = omega (arith, div-le_self m n, half width)

signs_quotient : (width : Width) (a b : ℤ) → Within true width a → Within true width b → with_sign width (not (beq (below_zero a) (below_zero b))) (unsigned_abs a / unsigned_abs b) ≡ residue (words_of width) (int_div a b)
signs_quotient width (pos m) (pos n) p q = positive width (m / n) (small width m n (omega (arith, p)))
signs_quotient width (pos m) (negsuc n) p q = negative width (m / suc n) (small width m (suc n) (omega (arith, p)))
signs_quotient width (negsuc m) (pos n) p q = negative width (suc m / n) (small width (suc m) n (omega (arith, p)))
signs_quotient width (negsuc m) (negsuc n) p q = positive width (suc m / suc n) (small width (suc m) (suc n) (omega (arith, p)))

least_rest : (width : Width) (m n : ℕ) → m ≤ sign_of width → m % n < words_of width
least_rest width m n h = omega (arith, mod-le m n, half width)

signs_remainder : (width : Width) (a b : ℤ) → Within true width a → with_sign width (below_zero a) (unsigned_abs a % unsigned_abs b) ≡ residue (words_of width) (int_rem a b)
signs_remainder width (pos m) b p = positive width (m % unsigned_abs b) (least_rest width m (unsigned_abs b) (omega (arith, p)))
signs_remainder width (negsuc m) b p = negative width (suc m % unsigned_abs b) (least_rest width (suc m) (unsigned_abs b) (omega (arith, p)))

module _ (width : Width) (a b : ℤ) (p : Within true width a) (q : Within true width b) where
  abbrev m : ℕ
  m = residue (words_of width) a

  abbrev n : ℕ
  n = residue (words_of width) b

  quotient_is : signed_quotient width m n ≡ residue (words_of width) (int_div a b)
  quotient_is =
      ap (λ s. with_sign width (not (beq s (is_negative width n))) (magnitude width m / magnitude width n)) (sign_is width a p)
      ∙ ap (λ s. with_sign width (not (beq (below_zero a) s)) (magnitude width m / magnitude width n)) (sign_is width b q)
      ∙ ap (λ x. with_sign width (not (beq (below_zero a) (below_zero b))) (x / magnitude width n)) (magnitude_is width a p)
      ∙ ap (λ x. with_sign width (not (beq (below_zero a) (below_zero b))) (unsigned_abs a / x)) (magnitude_is width b q)
      ∙ signs_quotient width a b p q

  remainder_is : signed_remainder width m n ≡ residue (words_of width) (int_rem a b)
  remainder_is =
      ap (λ s. with_sign width s (magnitude width m % magnitude width n)) (sign_is width a p)
      ∙ ap (λ x. with_sign width (below_zero a) (x % magnitude width n)) (magnitude_is width a p)
      ∙ ap (λ x. with_sign width (below_zero a) (unsigned_abs a % x)) (magnitude_is width b q)
      ∙ signs_remainder width a b p

-- ---- no zero divisor

not_zero : (sign : Bool) (width : Width) (z : ℤ) → Within sign width z → (z ≡ pos 0 → ⊥) → residue (words_of width) z ≡ 0 → ⊥
not_zero sign width (pos zero) h ne e = ne refl
not_zero true Ax (pos (suc n)) h ne e = omega (arith, h, e)
not_zero true Eax (pos (suc n)) h ne e = omega (arith, h, e)
not_zero false Ax (pos (suc n)) h ne e = omega (arith, h, e)
not_zero false Eax (pos (suc n)) h ne e = omega (arith, h, e)
not_zero true Ax (negsuc n) h ne e = omega (arith, h, e)
not_zero true Eax (negsuc n) h ne e = omega (arith, h, e)
not_zero false width (negsuc n) h ne e = h

divided_is : (d v w : ℕ) → (d ≡ 0 → ⊥) → v ≡ w → divided d v ≡ Some w
divided_is d v w h e = ap (λ b. if b then None else Some v) (unequal d 0 h) ∙ ap Some e

pub quotient_given : (sign : Bool) (width : Width) (a b : ℤ) → Within sign width a → Within sign width b → (b ≡ pos 0 → ⊥)
    → tos_result (tos_of Div sign) width (residue (words_of width) a) (residue (words_of width) b) ≡ Some (residue (words_of width) (int_div a b))
quotient_given true width a b p q ne = divided_is (residue (words_of width) b) _ _ (not_zero true width b q ne) (quotient_is width a b p q)
quotient_given false width (pos m) (pos n) p q ne = divided_is (n % words_of width) _ _ (not_zero false width (pos n) q ne) (unsigned_quotient width m n p q)
  where
    unsigned_quotient : (width : Width) (m n : ℕ) → m < words_of width → n < words_of width → m % words_of width / (n % words_of width) ≡ (m / n) % words_of width
    unsigned_quotient width m n p q = ap (λ x. x / (n % words_of width)) (mod-eq_of_lt p) ∙ ap (λ x. m / x) (mod-eq_of_lt q) ∙ sym (mod-eq_of_lt (omega (arith, div-le_self m n, p)))
quotient_given false width (negsuc m) b p q ne = absurd p
quotient_given false width (pos m) (negsuc n) p q ne = absurd q

pub remainder_given : (sign : Bool) (width : Width) (a b : ℤ) → Within sign width a → Within sign width b → (b ≡ pos 0 → ⊥)
    → tos_result (tos_of Rem sign) width (residue (words_of width) a) (residue (words_of width) b) ≡ Some (residue (words_of width) (int_rem a b))
remainder_given true width a b p q ne = divided_is (residue (words_of width) b) _ _ (not_zero true width b q ne) (remainder_is width a b p q)
remainder_given false width (pos m) (pos n) p q ne = divided_is (n % words_of width) _ _ (not_zero false width (pos n) q ne) (unsigned_remainder width m n p q)
  where
    unsigned_remainder : (width : Width) (m n : ℕ) → m < words_of width → n < words_of width → m % words_of width % (n % words_of width) ≡ (m % n) % words_of width
    unsigned_remainder width m n p q = ap (λ x. x % (n % words_of width)) (mod-eq_of_lt p) ∙ ap (λ x. m % x) (mod-eq_of_lt q) ∙ sym (mod-eq_of_lt (omega (arith, mod-le m n, p)))
remainder_given false width (negsuc m) b p q ne = absurd p
remainder_given false width (pos m) (negsuc n) p q ne = absurd q

-- the remainder as C90 says it: what is left behind the quotient
pub rest_is : (a b : ℤ) → a -ℤ b *ℤ cut a b ≡ int_rem a b
rest_is a b = rw (*ℤ_comm b (int_div a b)) (from_sum a (int_div a b *ℤ b) (int_rem a b) (quot-rem a b))
  where
    from_sum : (a x r : ℤ) → x +ℤ r ≡ a → a -ℤ x ≡ r
    from_sum a x r e = omega (arith, ints)
