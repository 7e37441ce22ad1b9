-- The routines of the operators, on the words of two numbers.
use Rattle.std.proofs.Common.{◌≡◌, ℕ, zero, suc, ◌-◌, ◌%◌, ◌^◌, ◌<◌, ℤ, pos, negsuc, neg_ℤ, ◌+ℤ◌, ◌-ℤ◌, ◌*ℤ◌, int_div, int_rem, unsigned_abs, Bool, true, false, refl, sym, ap, ◌∙◌, subst, arith}
use Rattle.std.specs.Prelude.{not, nat_lt, nat_le, ◌==◌, Ok, Some, None, bit_and, bit_or, bit_xor}
use Rattle.std.proofs.lemmas.Int.{ints}
use Rattle.std.proofs.lemmas.Nat.{and_le_l, and_mod, or_mod, xor_mod, or_of_16, or_of_32, xor_of_16, xor_of_32, pow_pos}
use Rattle.std.proofs.Math.Nat.{mod-eq_of_lt, mod-lt, mod-le}
use Rattle.c65_base.specs.declared.operators.BinaryOp.{BinaryOp}
use Rattle.c65_base.specs.declared.operators.BinaryOp.TheVariants as ops
use Rattle.c65_ints.specs.declared.types.IntType.{IntType}
use Rattle.c65_ints.specs.declared.types.IntType.TheVariants as I
use Rattle.c65_ints.specs.Ranges.{width_of as bits_in, modulus_of, is_signed_of, residue, wrap_of, InRange}
use Rattle.c65_ints.specs.Results.{unless_zero, cut}
use Rattle.c65_meaning.specs.declared.action.Action.TheVariants.{DivisionByZero}
use Rattle.c65_meaning.specs.Integers as numbers
use Rattle.c65_meaning.specs.Store.{Store, Whole}
use Rattle.c65_meaning.specs.Operators.{number, truth_of, number_or, calculated}
use Rattle.c65_code.specs.declared.routine.Width.{Width}
use Rattle.c65_code.specs.declared.routine.Width.TheVariants.{Ax, Eax}
use Rattle.c65_code.specs.Numbers.{words_of, truth, tos_result}
use Rattle.c65_genwide.specs.Wide.{width_of, tos_of}
use Rattle.c65_agree_numbers.specs.Words.{word_of, narrowed, is_shift}
use Rattle.c65_agree_numbers.specs.Laws.{GivesWord, OperatorsAreOnWords, OppositesAreOnWords, TruthIsOfWords}
use Rattle.c65_agree_numbers.proofs.Residues.{word_below, product_word, sum_word, less_word, minus_of_word}
use Rattle.c65_agree_numbers.proofs.Ranges.{Within, within, residue_down, narrowed_is, words_are_wrapped, words_in_range_stay}
use Rattle.c65_agree_numbers.proofs.Tests.{rank, less_words, most_words, equal_words, unequal}
use Rattle.c65_agree_numbers.proofs.Quotients.{quotient_given, remainder_given, rest_is}

-- ---- bits

modulus_some : (t : IntType) → 0 < modulus_of t
modulus_some t = pow_pos (bits_in t)

-- an operator on bits, at a word and at its lower part
module _ (f : ℕ → ℕ → ℕ) (lower : (a b k : ℕ) → f a b % 2 ^ k ≡ f (a % 2 ^ k) (b % 2 ^ k)) (t : IntType) (a b : ℤ) where
  abbrev m : ℕ
  m = word_of t a

  abbrev n : ℕ
  n = word_of t b

  abbrev both : ℕ
  both = f (residue (modulus_of t) a) (residue (modulus_of t) b)

  low_bits : f m n % modulus_of t ≡ both
  low_bits = lower m n (bits_in t) ∙ ap (λ x. f x (n % modulus_of t)) (residue_down t a) ∙ ap (f (residue (modulus_of t) a)) (residue_down t b)

  pub bits_word : f m n < words_of (width_of t) → narrowed t (f m n) ≡ word_of t (wrap_of t (pos both))
  bits_word h =
      let few : both < modulus_of t = subst (λ x. x < modulus_of t) low_bits (mod-lt (f m n) (modulus_some t)) in
      narrowed_is t (f m n) (pos both) h (low_bits ∙ sym (mod-eq_of_lt few))

and_below : (width : Width) (m n : ℕ) → m < words_of width → bit_and m n < words_of width
and_below width m n h = omega (arith, and_le_l m n, h)

or_below : (width : Width) (m n : ℕ) → m < words_of width → n < words_of width → bit_or m n < words_of width
or_below Ax m n h k = or_of_16 m n h k
or_below Eax m n h k = or_of_32 m n h k

xor_below : (width : Width) (m n : ℕ) → m < words_of width → n < words_of width → bit_xor m n < words_of width
xor_below Ax m n h k = xor_of_16 m n h k
xor_below Eax m n h k = xor_of_32 m n h k

-- ---- one operator each

truth_word : (b : Bool) → truth b ≡ residue 65536 (numbers.truth b)
truth_word true = refl
truth_word false = refl

is_number : (y z : ℤ) → number y ≡ number z → y ≡ z
is_number y z e = cc

no_number : (z : ℤ) → number_or DivisionByZero None ≡ number z → ⊥
no_number z e = cc

-- a divisor that is not 0
record Divides (b y z : ℤ) : Type 0 where
  some : b ≡ pos 0 → ⊥
  is : y ≡ z

divides : (b y z : ℤ) → number_or DivisionByZero (unless_zero b y) ≡ number z → Divides b y z
divides (pos zero) y z e = absurd (no_number z e)
divides (pos (suc n)) y z e = record { some = λ h. cc; is = is_number y z e }
divides (negsuc n) y z e = record { some = λ h. cc; is = is_number y z e }

-- a remainder lies between 0 and the dividend
rests_stay : (t : IntType) (a b : ℤ) → InRange t a → narrowed t (word_of t (int_rem a b)) ≡ word_of t (int_rem a b)
rests_stay I.SChar (pos n) b r = words_in_range_stay I.SChar (pos (n % unsigned_abs b)) (record { low = omega (arith, ints); high = omega (arith, ints, r.high, mod-le n (unsigned_abs b)) })
rests_stay I.SChar (negsuc n) b r = words_in_range_stay I.SChar (neg_ℤ (pos (suc n % unsigned_abs b))) (record { low = omega (arith, ints, r.low, mod-le (suc n) (unsigned_abs b)); high = omega (arith, ints) })
rests_stay I.UChar (pos n) b r = words_in_range_stay I.UChar (pos (n % unsigned_abs b)) (record { low = omega (arith, ints); high = omega (arith, ints, r.high, mod-le n (unsigned_abs b)) })
rests_stay I.UChar (negsuc n) b r = absurd (omega (arith, ints, r.low))
rests_stay I.Short a b r = refl
rests_stay I.UShort a b r = refl
rests_stay I.Int a b r = refl
rests_stay I.UInt a b r = refl
rests_stay I.Long a b r = refl
rests_stay I.ULong a b r = refl

-- an order, by the ranks of the words
less_given : (sign : Bool) (width : Width) (m n : ℕ) → tos_result (tos_of ops.Lt sign) width m n ≡ Some (truth (nat_lt (rank sign width m) (rank sign width n)))
less_given true width m n = refl
less_given false width m n = refl

more_given : (sign : Bool) (width : Width) (m n : ℕ) → tos_result (tos_of ops.Gt sign) width m n ≡ Some (truth (nat_lt (rank sign width n) (rank sign width m)))
more_given true width m n = refl
more_given false width m n = refl

most_given : (sign : Bool) (width : Width) (m n : ℕ) → tos_result (tos_of ops.Le sign) width m n ≡ Some (truth (nat_le (rank sign width m) (rank sign width n)))
most_given true width m n = refl
most_given false width m n = refl

least_given : (sign : Bool) (width : Width) (m n : ℕ) → tos_result (tos_of ops.Ge sign) width m n ≡ Some (truth (nat_le (rank sign width n) (rank sign width m)))
least_given true width m n = refl
least_given false width m n = refl

module _ (t : IntType) (a b z : ℤ) (p : InRange t a) (q : InRange t b) where
  abbrev v : ℕ
  v = word_of t a

  abbrev w : ℕ
  w = word_of t b

  abbrev s : Bool
  s = is_signed_of t

  tested : (x y : Bool) → x ≡ y → number (numbers.truth x) ≡ number z → truth y ≡ word_of I.Int z
  tested x y e f = truth_word y ∙ ap (λ b. word_of I.Int (numbers.truth b)) (sym e) ∙ ap (word_of I.Int) (is_number (numbers.truth x) z f)

  wrapped : (y : ℤ) → number (wrap_of t y) ≡ number z → narrowed t (word_of t y) ≡ word_of t z
  wrapped y e = words_are_wrapped t y ∙ ap (word_of t) (is_number (wrap_of t y) z e)

  quotient : calculated ops.Div t a b ≡ Ok (Whole z) → GivesWord ops.Div t v w z
  quotient e =
      let d = divides b (wrap_of t (cut a b)) z e in
      record { word = word_of t (int_div a b); given = quotient_given s (width_of t) a b (within t a p) (within t b q) d.some; is = words_are_wrapped t (int_div a b) ∙ ap (word_of t) d.is }

  remainder : calculated ops.Rem t a b ≡ Ok (Whole z) → GivesWord ops.Rem t v w z
  remainder e =
      let d = divides b (a -ℤ b *ℤ cut a b) z e in
      record { word = word_of t (int_rem a b); given = remainder_given s (width_of t) a b (within t a p) (within t b q) d.some; is = rests_stay t a b p ∙ ap (word_of t) (sym (rest_is a b) ∙ d.is) }

  gives : (op : BinaryOp) → (op ≡ ops.Shl → ⊥) → (op ≡ ops.Shr → ⊥) → calculated op t a b ≡ Ok (Whole z) → GivesWord op t v w z
  gives ops.Mul x y e = record { word = word_of t (a *ℤ b); given = ap Some (sym (product_word a b (width_of t))); is = wrapped (a *ℤ b) e }
  gives ops.Div x y e = quotient e
  gives ops.Rem x y e = remainder e
  gives ops.Add x y e = record { word = word_of t (a +ℤ b); given = ap Some (sym (sum_word (width_of t) a b)); is = wrapped (a +ℤ b) e }
  gives ops.Sub x y e = record { word = word_of t (a -ℤ b); given = ap Some (sym (less_word (width_of t) a b)); is = wrapped (a -ℤ b) e }
  gives ops.Shl x y e = absurd (x refl)
  gives ops.Shr x y e = absurd (y refl)
  gives ops.Lt x y e = record { word = _; given = less_given s (width_of t) v w; is = tested _ _ (less_words s (width_of t) a b (within t a p) (within t b q)) e }
  gives ops.Gt x y e = record { word = _; given = more_given s (width_of t) v w; is = tested _ _ (less_words s (width_of t) b a (within t b q) (within t a p)) e }
  gives ops.Le x y e = record { word = _; given = most_given s (width_of t) v w; is = tested _ _ (most_words s (width_of t) a b (within t a p) (within t b q)) e }
  gives ops.Ge x y e = record { word = _; given = least_given s (width_of t) v w; is = tested _ _ (most_words s (width_of t) b a (within t b q) (within t a p)) e }
  gives ops.Eq x y e = record { word = truth (v == w); given = refl; is = tested _ _ (equal_words s (width_of t) a b (within t a p) (within t b q)) e }
  gives ops.Ne x y e = record { word = truth (not (v == w)); given = refl; is = tested _ _ (ap not (equal_words s (width_of t) a b (within t a p) (within t b q))) e }
  gives ops.BitAnd x y e = record { word = bit_and v w; given = refl; is = bits_word bit_and and_mod t a b (and_below (width_of t) v w (word_below (width_of t) a)) ∙ ap (word_of t) (is_number _ z e) }
  gives ops.BitXor x y e = record { word = bit_xor v w; given = refl; is = bits_word bit_xor xor_mod t a b (xor_below (width_of t) v w (word_below (width_of t) a) (word_below (width_of t) b)) ∙ ap (word_of t) (is_number _ z e) }
  gives ops.BitOr x y e = record { word = bit_or v w; given = refl; is = bits_word bit_or or_mod t a b (or_below (width_of t) v w (word_below (width_of t) a) (word_below (width_of t) b)) ∙ ap (word_of t) (is_number _ z e) }

pub operators_are_on_words : OperatorsAreOnWords
operators_are_on_words op t a b z h p q e = gives t a b z p q op (λ f. no_shift op ops.Shl f refl h) (λ f. no_shift op ops.Shr f refl h) e
  where
    no_shift : (op other : BinaryOp) → op ≡ other → is_shift other ≡ true → is_shift op ≡ false → ⊥
    no_shift op other e t f = let g : true ≡ false = sym t ∙ ap is_shift (sym e) ∙ f in cc

-- ---- one operand

abbrev turned_bits : ℤ → ℤ
turned_bits (pos n) = negsuc n
turned_bits (negsuc n) = pos n

opposite_is : (a : ℤ) → neg_ℤ a -ℤ pos 1 ≡ turned_bits a
opposite_is (pos n) = omega (arith, ints)
opposite_is (negsuc n) = omega (arith, ints)

complement_word : (width : Width) (a : ℤ) → words_of width - 1 - residue (words_of width) a ≡ residue (words_of width) (turned_bits a)
complement_word width (pos n) = refl
complement_word Ax (negsuc n) = omega arith
complement_word Eax (negsuc n) = omega arith

pub opposites_are_on_words : OppositesAreOnWords
opposites_are_on_words t z = (
  ap (narrowed t) (sym (minus_of_word (width_of t) z)) ∙ words_are_wrapped t (neg_ℤ z),
  ap (narrowed t) (complement_word (width_of t) z) ∙ words_are_wrapped t (turned_bits z) ∙ ap (λ y. word_of t (wrap_of t y)) (sym (opposite_is z)),
)

-- ---- truth

truth_is : (s : Store) (sign : Bool) (width : Width) (z : ℤ) (b : Bool) → Within sign width z → truth_of s (Whole z) ≡ Ok b → (residue (words_of width) z == 0) ≡ not b
truth_is s sign Ax (pos zero) b h e = let f : b ≡ false = cc in ap not (sym f)
truth_is s sign Eax (pos zero) b h e = let f : b ≡ false = cc in ap not (sym f)
truth_is s true Ax (pos (suc n)) b h e = let f : b ≡ true = cc in unequal _ 0 (λ g. omega (arith, g, h)) ∙ ap not (sym f)
truth_is s true Eax (pos (suc n)) b h e = let f : b ≡ true = cc in unequal _ 0 (λ g. omega (arith, g, h)) ∙ ap not (sym f)
truth_is s false Ax (pos (suc n)) b h e = let f : b ≡ true = cc in unequal _ 0 (λ g. omega (arith, g, h)) ∙ ap not (sym f)
truth_is s false Eax (pos (suc n)) b h e = let f : b ≡ true = cc in unequal _ 0 (λ g. omega (arith, g, h)) ∙ ap not (sym f)
truth_is s true Ax (negsuc n) b h e = let f : b ≡ true = cc in unequal _ 0 (λ g. omega (arith, g, h)) ∙ ap not (sym f)
truth_is s true Eax (negsuc n) b h e = let f : b ≡ true = cc in unequal _ 0 (λ g. omega (arith, g, h)) ∙ ap not (sym f)
truth_is s false width (negsuc n) b h e = absurd h

pub truth_is_of_words : TruthIsOfWords
truth_is_of_words s t z b r e =
    let h : (word_of t z == 0) ≡ not b = truth_is s (is_signed_of t) (width_of t) z b (within t z r) e in
    (h, ap truth h)
