-- Remainders of sums, differences and products of whole numbers.
use Rattle.std.proofs.Common.{◌≡◌, ℕ, suc, ◌+◌, ◌-◌, ◌*◌, ◌%◌, ◌<◌, ℤ, pos, negsuc, ◌+ℤ◌, ◌-ℤ◌, ◌*ℤ◌, neg_ℤ, refl, sym, ap, ◌∙◌, arith, w16, w32}
use Rattle.std.specs.Int.{cast_signed, cast_unsigned, int_wrap}
use Rattle.std.proofs.lemmas.Int.{ints, of_z-to_z, wrapping_mul-bits, int_wrap-mul_left, int_wrap-mul_right}
use Rattle.c65_ints.specs.Ranges.{residue}
use Rattle.c65_code.specs.declared.routine.Width.{Width}
use Rattle.c65_code.specs.declared.routine.Width.TheVariants.{Ax, Eax}
use Rattle.c65_code.specs.Numbers.{words_of}
use Rattle.std.specs.Int.{Width as BitWidth}

-- std's numbers of as many bits
abbrev as_int : Width → BitWidth
as_int Ax = w16
as_int Eax = w32

abbrev signed : Width → ℕ → ℤ
signed width n = cast_signed (as_int width) n

abbrev wrap : Width → ℤ → ℤ
wrap width z = int_wrap (as_int width) z

pub residue_below : (m : ℕ) (z : ℤ) → 0 < m → residue m z < m
residue_below m (pos n) h = omega arith
residue_below m (negsuc n) h = omega arith

pub word_below : (width : Width) (z : ℤ) → residue (words_of width) z < words_of width
word_below Ax z = residue_below 65536 z (omega arith)
word_below Eax z = residue_below 4294967296 z (omega arith)

wrapped : (width : Width) (z : ℤ) → wrap width z ≡ signed width (residue (words_of width) z)
unfolding int_wrap
wrapped Ax (pos n) = refl
wrapped Ax (negsuc n) = refl
wrapped Eax (pos n) = refl
wrapped Eax (negsuc n) = refl

same_word : (width : Width) (m n : ℕ) → m < words_of width → n < words_of width → signed width m ≡ signed width n → m ≡ n
same_word Ax m n hm hn e = sym (of_z-to_z w16 m hm) ∙ ap (cast_unsigned w16) e ∙ of_z-to_z w16 n hn
same_word Eax m n hm hn e = sym (of_z-to_z w32 m hm) ∙ ap (cast_unsigned w32) e ∙ of_z-to_z w32 n hn

by_words : (width : Width) (z : ℤ) (n : ℕ) → n < words_of width → signed width n ≡ wrap width z → residue (words_of width) z ≡ n
by_words width z n h e = same_word width (residue (words_of width) z) n (word_below width z) h (sym (wrapped width z) ∙ sym e)

module _ (a b : ℤ) where
  product_of_words : (width : Width) → signed width ((residue (words_of width) a * residue (words_of width) b) % words_of width) ≡ wrap width (a *ℤ b)
  product_of_words Ax =
      let ra = residue 65536 a in
      let rb = residue 65536 b in
      wrapping_mul-bits w16 ra rb (word_below Ax a) (word_below Ax b)
      ∙ ap (λ x. int_wrap w16 (x *ℤ cast_signed w16 rb)) (sym (wrapped Ax a)) ∙ ap (λ x. int_wrap w16 (int_wrap w16 a *ℤ x)) (sym (wrapped Ax b))
      ∙ int_wrap-mul_left w16 a (int_wrap w16 b) ∙ int_wrap-mul_right w16 a b
  product_of_words Eax =
      let ra = residue 4294967296 a in
      let rb = residue 4294967296 b in
      wrapping_mul-bits w32 ra rb (word_below Eax a) (word_below Eax b)
      ∙ ap (λ x. int_wrap w32 (x *ℤ cast_signed w32 rb)) (sym (wrapped Eax a)) ∙ ap (λ x. int_wrap w32 (int_wrap w32 a *ℤ x)) (sym (wrapped Eax b))
      ∙ int_wrap-mul_left w32 a (int_wrap w32 b) ∙ int_wrap-mul_right w32 a b

  pub product_word : (width : Width) → residue (words_of width) (a *ℤ b) ≡ (residue (words_of width) a * residue (words_of width) b) % words_of width
  product_word Ax = by_words Ax (a *ℤ b) _ (omega arith) (product_of_words Ax)
  product_word Eax = by_words Eax (a *ℤ b) _ (omega arith) (product_of_words Eax)

-- a difference of naturals
difference_word : (width : Width) (z : ℤ) (u d : ℕ) → z ≡ pos u -ℤ pos d → residue (words_of width) z ≡ (u + (words_of width - d % words_of width)) % words_of width
difference_word Ax (pos n) u d e = let f : n + d ≡ u = omega (arith, ints) in omega arith
difference_word Ax (negsuc n) u d e = let f : u + suc n ≡ d = omega (arith, ints) in omega arith
difference_word Eax (pos n) u d e = let f : n + d ≡ u = omega (arith, ints) in omega arith
difference_word Eax (negsuc n) u d e = let f : u + suc n ≡ d = omega (arith, ints) in omega arith

pub sum_word : (width : Width) (a b : ℤ) → residue (words_of width) (a +ℤ b) ≡ (residue (words_of width) a + residue (words_of width) b) % words_of width
sum_word Ax (pos m) (pos n) = omega arith
sum_word Ax (pos m) (negsuc n) = difference_word Ax (pos m +ℤ negsuc n) m (suc n) (omega (arith, ints)) ∙ omega arith
sum_word Ax (negsuc m) (pos n) = difference_word Ax (negsuc m +ℤ pos n) n (suc m) (omega (arith, ints)) ∙ omega arith
sum_word Ax (negsuc m) (negsuc n) = omega arith
sum_word Eax (pos m) (pos n) = omega arith
sum_word Eax (pos m) (negsuc n) = difference_word Eax (pos m +ℤ negsuc n) m (suc n) (omega (arith, ints)) ∙ omega arith
sum_word Eax (negsuc m) (pos n) = difference_word Eax (negsuc m +ℤ pos n) n (suc m) (omega (arith, ints)) ∙ omega arith
sum_word Eax (negsuc m) (negsuc n) = omega arith

pub minus_of_word : (width : Width) (z : ℤ) → residue (words_of width) (neg_ℤ z) ≡ (words_of width - residue (words_of width) z) % words_of width
minus_of_word Ax (pos n) = difference_word Ax (neg_ℤ (pos n)) 0 n (omega (arith, ints)) ∙ omega arith
minus_of_word Ax (negsuc n) = omega arith
minus_of_word Eax (pos n) = difference_word Eax (neg_ℤ (pos n)) 0 n (omega (arith, ints)) ∙ omega arith
minus_of_word Eax (negsuc n) = omega arith

turned_sum : (a b : ℤ) → a -ℤ b ≡ a +ℤ neg_ℤ b
turned_sum a b = omega (arith, ints)

pub less_word : (width : Width) (a b : ℤ) → residue (words_of width) (a -ℤ b) ≡ (residue (words_of width) a + words_of width - residue (words_of width) b) % words_of width
less_word Ax a b =
    let h : residue 65536 b < 65536 = word_below Ax b in
    ap (residue 65536) (turned_sum a b) ∙ sum_word Ax a (neg_ℤ b) ∙ ap (λ x. (residue 65536 a + x) % 65536) (minus_of_word Ax b) ∙ omega arith
less_word Eax a b =
    let h : residue 4294967296 b < 4294967296 = word_below Eax b in
    ap (residue 4294967296) (turned_sum a b) ∙ sum_word Eax a (neg_ℤ b) ∙ ap (λ x. (residue 4294967296 a + x) % 4294967296) (minus_of_word Eax b) ∙ omega arith
