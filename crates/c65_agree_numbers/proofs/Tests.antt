-- Orders and equality of numbers as those of their words (C90 6.3.8, 6.3.9).
use Rattle.std.proofs.Common.{◌≡◌, ℕ, ◌+◌, ◌-◌, ◌<◌, ◌≤◌, ◌⊎◌, inl, inr, ℤ, pos, negsuc, Bool, true, false, refl, sym, ap, ◌∙◌, arith, int_lt, int_le}
use Rattle.std.specs.Prelude.{nat_lt, nat_le, ◌==◌, if◌then◌else◌}
use Rattle.std.proofs.lemmas.Bool.{cases_lt, cases_eq}
use Rattle.std.proofs.lemmas.Bool.Decides.{nat_tests}
use Rattle.c65_ints.specs.Ranges.{residue}
use Rattle.c65_meaning.specs.Integers.{same_number}
use Rattle.c65_code.specs.declared.routine.Width.{Width}
use Rattle.c65_code.specs.declared.routine.Width.TheVariants.{Ax, Eax}
use Rattle.c65_code.specs.Numbers.{words_of, sign_of, turned}
use Rattle.c65_agree_numbers.proofs.Residues.{word_below}
use Rattle.c65_agree_numbers.proofs.Ranges.{Within}

-- ---- tests on naturals

pub less : (a b : ℕ) → a < b → nat_lt a b ≡ true
less a b h = grind (arith, nat_tests)

pub not_less : (a b : ℕ) → b ≤ a → nat_lt a b ≡ false
not_less a b h = grind (arith, nat_tests)

pub at_most : (a b : ℕ) → a ≤ b → nat_le a b ≡ true
at_most a b h = grind (arith, nat_tests)

above : (a b : ℕ) → b < a → nat_le a b ≡ false
above a b h = grind (arith, nat_tests)

pub equal : (a b : ℕ) → a ≡ b → (a == b) ≡ true
equal a b h = grind (arith, nat_tests)

pub unequal : (a b : ℕ) → (a ≡ b → ⊥) → (a == b) ≡ false
unequal a b h = grind (arith, nat_tests)

same_less : (a b c d : ℕ) → (a < b → c < d) → (b ≤ a → d ≤ c) → nat_lt a b ≡ nat_lt c d
same_less a b c d f g = go (cases_lt a b)
  where
    go : (a < b) ⊎ (b ≤ a) → nat_lt a b ≡ nat_lt c d
    go (inl h) = less a b h ∙ sym (less c d (f h))
    go (inr h) = not_less a b h ∙ sym (not_less c d (g h))

same_most : (a b c d : ℕ) → (a ≤ b → c ≤ d) → (b < a → d < c) → nat_le a b ≡ nat_le c d
same_most a b c d f g = go (cases_lt b a)
  where
    go : (b < a) ⊎ (a ≤ b) → nat_le a b ≡ nat_le c d
    go (inl h) = above a b h ∙ sym (above c d (g h))
    go (inr h) = at_most a b h ∙ sym (at_most c d (f h))

same_equal : (a b c d : ℕ) → (a ≡ b → c ≡ d) → (c ≡ d → a ≡ b) → (a == b) ≡ (c == d)
same_equal a b c d f g = go (cases_eq a b)
  where
    go : (a ≡ b) ⊎ (a ≡ b → ⊥) → (a == b) ≡ (c == d)
    go (inl h) = equal a b h ∙ sym (equal c d (f h))
    go (inr h) = unequal a b h ∙ sym (unequal c d (λ e. h (g e)))

-- ---- the rank of a number among those of its width

abbrev pub rank : Bool → Width → ℕ → ℕ
rank true width n = turned width n
rank false width n = n

-- the same, from the number
abbrev place_in : Bool → Width → ℤ → ℕ
place_in true width (pos n) = n + sign_of width
place_in true width (negsuc n) = sign_of width - 1 - n
place_in false width (pos n) = n
place_in false width (negsuc n) = 0

rank_is : (sign : Bool) (width : Width) (z : ℤ) → Within sign width z → rank sign width (residue (words_of width) z) ≡ place_in sign width z
rank_is true Ax (pos n) h = omega (arith, h)
rank_is true Ax (negsuc n) h = omega (arith, h)
rank_is true Eax (pos n) h = omega (arith, h)
rank_is true Eax (negsuc n) h = omega (arith, h)
rank_is false Ax (pos n) h = omega (arith, h)
rank_is false Ax (negsuc n) h = absurd h
rank_is false Eax (pos n) h = omega (arith, h)
rank_is false Eax (negsuc n) h = absurd h

less_places : (sign : Bool) (width : Width) (a b : ℤ) → Within sign width a → Within sign width b → int_lt a b ≡ nat_lt (place_in sign width a) (place_in sign width b)
less_places true width (pos m) (pos n) p q = same_less m n (m + sign_of width) (n + sign_of width) (λ h. omega (arith, h)) (λ h. omega (arith, h))
less_places true width (pos m) (negsuc n) p q = sym (not_less (m + sign_of width) (sign_of width - 1 - n) (omega arith))
less_places true width (negsuc m) (pos n) p q = sym (less (sign_of width - 1 - m) (n + sign_of width) (omega (arith, p)))
less_places true width (negsuc m) (negsuc n) p q = same_less n m (sign_of width - 1 - m) (sign_of width - 1 - n) (λ h. omega (arith, h, p, q)) (λ h. omega (arith, h, p, q))
less_places false width (pos m) (pos n) p q = refl
less_places false width (pos m) (negsuc n) p q = absurd q
less_places false width (negsuc m) b p q = absurd p

most_places : (sign : Bool) (width : Width) (a b : ℤ) → Within sign width a → Within sign width b → int_le a b ≡ nat_le (place_in sign width a) (place_in sign width b)
most_places true width (pos m) (pos n) p q = same_most m n (m + sign_of width) (n + sign_of width) (λ h. omega (arith, h)) (λ h. omega (arith, h))
most_places true width (pos m) (negsuc n) p q = sym (above (m + sign_of width) (sign_of width - 1 - n) (omega (arith, q)))
most_places true width (negsuc m) (pos n) p q = sym (at_most (sign_of width - 1 - m) (n + sign_of width) (omega arith))
most_places true width (negsuc m) (negsuc n) p q = same_most n m (sign_of width - 1 - m) (sign_of width - 1 - n) (λ h. omega (arith, h, p, q)) (λ h. omega (arith, h, p, q))
most_places false width (pos m) (pos n) p q = refl
most_places false width (pos m) (negsuc n) p q = absurd q
most_places false width (negsuc m) b p q = absurd p

module _ (sign : Bool) (width : Width) (a b : ℤ) (p : Within sign width a) (q : Within sign width b) where
  abbrev m : ℕ
  m = residue (words_of width) a

  abbrev n : ℕ
  n = residue (words_of width) b

  pub less_words : int_lt a b ≡ nat_lt (rank sign width m) (rank sign width n)
  less_words = less_places sign width a b p q ∙ sym (ap (λ x. nat_lt x (rank sign width n)) (rank_is sign width a p) ∙ ap (nat_lt (place_in sign width a)) (rank_is sign width b q))

  pub most_words : int_le a b ≡ nat_le (rank sign width m) (rank sign width n)
  most_words = most_places sign width a b p q ∙ sym (ap (λ x. nat_le x (rank sign width n)) (rank_is sign width a p) ∙ ap (nat_le (place_in sign width a)) (rank_is sign width b q))

-- ---- equality

neither : (m n : ℕ) → (if nat_lt m n then false else (if nat_lt n m then false else true)) ≡ (m == n)
neither m n = grind (arith, nat_tests)

turned_equal : (width : Width) (m n : ℕ) → m < words_of width → n < words_of width → (turned width m == turned width n) ≡ (m == n)
turned_equal Ax m n p q = same_equal (turned Ax m) (turned Ax n) m n (λ h. omega (arith, h, p, q)) (λ h. omega (arith, h))
turned_equal Eax m n p q = same_equal (turned Eax m) (turned Eax n) m n (λ h. omega (arith, h, p, q)) (λ h. omega (arith, h))

ranks_equal : (sign : Bool) (width : Width) (m n : ℕ) → m < words_of width → n < words_of width → (rank sign width m == rank sign width n) ≡ (m == n)
ranks_equal true width m n p q = turned_equal width m n p q
ranks_equal false width m n p q = refl

abbrev unless : Bool → Bool → Bool
unless x y = if x then false else (if y then false else true)

pub equal_words : (sign : Bool) (width : Width) (a b : ℤ) → Within sign width a → Within sign width b → same_number a b ≡ (residue (words_of width) a == residue (words_of width) b)
equal_words sign width a b p q =
    let m = residue (words_of width) a in
    let n = residue (words_of width) b in
    ap (λ x. unless x (int_lt b a)) (less_words sign width a b p q) ∙ ap (unless (nat_lt (rank sign width m) (rank sign width n))) (less_words sign width b a q p)
    ∙ neither (rank sign width m) (rank sign width n) ∙ ranks_equal sign width m n (word_below width a) (word_below width b)
