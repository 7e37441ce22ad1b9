-- Shifted numbers as shifted words (C90 6.3.7).
use Rattle.std.proofs.Common.{◌≡◌, ℕ, suc, ◌+◌, ◌-◌, ◌*◌, ◌/◌, ◌%◌, ◌^◌, ◌<◌, ◌≤◌, ◌⊎◌, inl, inr, ℤ, pos, negsuc, ◌*ℤ◌, Bool, true, false, refl, sym, ap, ◌∙◌, subst, arith}
use Rattle.std.specs.Prelude.{nat_lt, if◌then◌else◌, Ok, Some, None, option_map}
use Rattle.std.proofs.lemmas.Int.{ints}
use Rattle.std.proofs.lemmas.Bool.{cases_lt}
use Rattle.std.proofs.lemmas.Bool.Decides.{nat_tests}
use Rattle.std.proofs.lemmas.Nat.{pow_pos, pow-add, div-mul-add, mul-mod_second, div-add-mod'}
use Rattle.std.proofs.Math.Nat.{mod-eq_of_lt, mod-lt, div-le_self, add-mul, suc-mul, mul-div_cancel}
use Rattle.c65_base.specs.declared.operators.BinaryOp.TheVariants as ops
use Rattle.c65_ints.specs.declared.types.IntType.{IntType}
use Rattle.c65_ints.specs.declared.types.IntType.TheVariants as I
use Rattle.c65_ints.specs.Ranges.{width_of as bits_in, is_signed_of, residue, wrap_of, InRange}
use Rattle.c65_ints.specs.Results.{floor_of, count_of}
use Rattle.c65_meaning.specs.declared.action.Action.TheVariants.{ShiftCount}
use Rattle.c65_meaning.specs.Store.{Whole}
use Rattle.c65_meaning.specs.Operators.{number, number_or, calculated}
use Rattle.c65_code.specs.declared.routine.Width.{Width}
use Rattle.c65_code.specs.declared.routine.Width.TheVariants.{Ax, Eax}
use Rattle.c65_code.specs.Numbers.{bits_of, words_of, sign_of, counted, shifted_right, is_negative, tos_result}
use Rattle.c65_genwide.specs.Wide.{width_of, tos_of}
use Rattle.c65_agree_numbers.specs.Words.{word_of, narrowed}
use Rattle.c65_agree_numbers.specs.Laws.{GivesWord, ShiftsAreOnWords}
use Rattle.c65_agree_numbers.proofs.Residues.{product_word}
use Rattle.c65_agree_numbers.proofs.Ranges.{Within, within, words_are_wrapped, words_in_range_stay}

-- ---- counts

-- a count below the bits of a type
pub record IsCount (t : IntType) (c : ℤ) : Type 0 where
  pub times : ℕ
  pub is : c ≡ pos times
  pub counts : count_of t c ≡ Some times
  pub below : times < bits_in t

no_value : (z : ℤ) → number_or ShiftCount None ≡ number z → ⊥
no_value z e = cc

count_is : (t : IntType) (c : ℤ) (f : ℕ → ℤ) (z : ℤ) → number_or ShiftCount (option_map f (count_of t c)) ≡ number z → IsCount t c
count_is t (negsuc n) f z e = absurd (no_value z e)
count_is t (pos n) f z e = go (cases_lt n (bits_in t))
  where
    go : (n < bits_in t) ⊎ (bits_in t ≤ n) → IsCount t (pos n)
    go (inl h) = let b : nat_lt n (bits_in t) ≡ true = grind (arith, nat_tests) in record { times = n; is = refl; counts = ap (λ x. if x then Some n else None) b; below = h }
    go (inr h) =
        let b : nat_lt n (bits_in t) ≡ false = grind (arith, nat_tests) in
        absurd (no_value z (sym (ap (λ x. number_or ShiftCount (option_map f (if x then Some n else None))) b) ∙ e))

bits_fit : (t : IntType) → bits_in t ≤ bits_of (width_of t)
bits_fit I.SChar = omega arith
bits_fit I.UChar = omega arith
bits_fit I.Short = omega arith
bits_fit I.UShort = omega arith
bits_fit I.Int = omega arith
bits_fit I.UInt = omega arith
bits_fit I.Long = omega arith
bits_fit I.ULong = omega arith

most_bits : (t : IntType) → bits_in t ≤ 32
most_bits I.SChar = omega arith
most_bits I.UChar = omega arith
most_bits I.Short = omega arith
most_bits I.UShort = omega arith
most_bits I.Int = omega arith
most_bits I.UInt = omega arith
most_bits I.Long = omega arith
most_bits I.ULong = omega arith

-- a count is its own word, whatever its type
count_word : (width : Width) (k : ℕ) → k < 32 → k % words_of width ≡ k
count_word Ax k h = omega arith
count_word Eax k h = omega arith

counted_is : (width : Width) (k v : ℕ) → k < bits_of width → counted width k v ≡ Some v
counted_is width k v h = let b : nat_lt k (bits_of width) ≡ true = grind (arith, nat_tests) in ap (λ x. if x then Some v else None) b

-- ---- to the left

left_word : (width : Width) (a : ℤ) (k : ℕ) → (residue (words_of width) a * 2 ^ k) % words_of width ≡ residue (words_of width) (a *ℤ pos (2 ^ k))
left_word width a k = sym (product_word a (pos (2 ^ k)) width ∙ mul-mod_second (residue (words_of width) a) (2 ^ k) (words_of width))

-- ---- to the right

-- a number below 0 in two's complement, of `bits` bits
module _ (n c rest : ℕ) where
  abbrev p : ℕ
  p = 2 ^ c

  abbrev q : ℕ
  q = 2 ^ rest

  -- q times p words: the quotient of the complement is the complement of the quotient
  pub complement_quotient : n < q * p → (q * p - 1 - n) / p + 1 + n / p ≡ q
  complement_quotient h =
      let one : 0 < p = pow_pos c in
      let split : n / p * p + n % p ≡ n = div-add-mod' n p in
      let low : n % p < p = mod-lt n one in
      let few : n / p < q = below (n / p) (omega (arith, split, h)) in
      let y = q - 1 - n / p in
      let sum : q ≡ suc (n / p) + y = omega arith in
      let product : q * p ≡ suc (n / p) * p + y * p = ap (λ x. x * p) sum ∙ add-mul (suc (n / p)) y p in
      let more : suc (n / p) * p ≡ n / p * p + p = suc-mul (n / p) p in
      let parts : q * p - 1 - n ≡ y * p + (p - 1 - n % p) = omega arith in
      let deep : (y * p + (p - 1 - n % p)) / p ≡ y = div-mul-add y p (p - 1 - n % p) (omega arith) in
      let whole : (q * p - 1 - n) / p ≡ y = ap (λ x. x / p) parts ∙ deep in
      omega arith
    where
      below : (x : ℕ) → x * p < q * p → x < q
      below x h = go (cases_lt x q)
        where
          go : (x < q) ⊎ (q ≤ x) → x < q
          go (inl g) = g
          go (inr g) =
              let sum : x ≡ q + (x - q) = omega arith in
              let product : x * p ≡ q * p + (x - q) * p = ap (λ y. y * p) sum ∙ add-mul q (x - q) p in
              absurd (omega arith)

powers : (width : Width) (k : ℕ) → k ≤ bits_of width → 2 ^ (bits_of width - k) * 2 ^ k ≡ words_of width
powers width k h =
    let e : bits_of width - k + k ≡ bits_of width = omega arith in
    sym (pow-add 2 (bits_of width - k) k) ∙ ap (λ n. 2 ^ n) e ∙ all width
  where
    all : (width : Width) → 2 ^ bits_of width ≡ words_of width
    all Ax = refl
    all Eax = refl

negative_right : (width : Width) (n k : ℕ) → n < words_of width → k < bits_of width
    → (words_of width - 1 - n) / 2 ^ k + (words_of width - words_of width / 2 ^ k) ≡ words_of width - 1 - (n / 2 ^ k) % words_of width
negative_right width n k h lt =
    let w = words_of width in
    let q = 2 ^ (bits_of width - k) in
    let prod : q * 2 ^ k ≡ w = powers width k (omega arith) in
    let whole : w / 2 ^ k ≡ q = ap (λ x. x / 2 ^ k) (sym prod) ∙ mul-div_cancel q (pow_pos k) in
    let comp : (w - 1 - n) / 2 ^ k + 1 + n / 2 ^ k ≡ q = subst (λ x. (x - 1 - n) / 2 ^ k + 1 + n / 2 ^ k ≡ q) prod (complement_quotient n k (bits_of width - k) (omega (arith, prod, h))) in
    let less : n / 2 ^ k ≤ n = div-le_self n (2 ^ k) in
    let small : (n / 2 ^ k) % w ≡ n / 2 ^ k = mod-eq_of_lt (omega (arith, less, h)) in
    let most : w / 2 ^ k ≤ w = div-le_self w (2 ^ k) in
    omega (arith, whole, comp, small, most)

right_word : (width : Width) (a : ℤ) (k : ℕ) → Within true width a → k < bits_of width → shifted_right width (residue (words_of width) a) k ≡ residue (words_of width) (floor_of a (2 ^ k))
right_word width (pos n) k h lt =
    let less : n / 2 ^ k ≤ n = div-le_self n (2 ^ k) in
    ap (λ b. if b then n % words_of width / 2 ^ k + (words_of width - words_of width / 2 ^ k) else n % words_of width / 2 ^ k) (above width n h) ∙ ap (λ x. x / 2 ^ k) (mod-eq_of_lt (few width n h)) ∙ sym (mod-eq_of_lt (omega (arith, less, few width n h)))
  where
    few : (width : Width) (n : ℕ) → n < sign_of width → n < words_of width
    few Ax n h = omega arith
    few Eax n h = omega arith

    above : (width : Width) (n : ℕ) → n < sign_of width → is_negative width (n % words_of width) ≡ false
    above Ax n h = grind (arith, nat_tests)
    above Eax n h = grind (arith, nat_tests)
right_word width (negsuc n) k h lt =
    ap (λ b. if b then residue (words_of width) (negsuc n) / 2 ^ k + (words_of width - words_of width / 2 ^ k) else residue (words_of width) (negsuc n) / 2 ^ k) (under width n h)
    ∙ ap (λ x. (words_of width - 1 - x) / 2 ^ k + (words_of width - words_of width / 2 ^ k)) (mod-eq_of_lt (few width n h))
    ∙ negative_right width n k (few width n h) lt
  where
    few : (width : Width) (n : ℕ) → n < sign_of width → n < words_of width
    few Ax n h = omega arith
    few Eax n h = omega arith

    under : (width : Width) (n : ℕ) → n < sign_of width → is_negative width (words_of width - 1 - n % words_of width) ≡ true
    under Ax n h = grind (arith, nat_tests)
    under Eax n h = grind (arith, nat_tests)

unsigned_right : (width : Width) (n k : ℕ) → n < words_of width → n % words_of width / 2 ^ k ≡ (n / 2 ^ k) % words_of width
unsigned_right width n k h = ap (λ x. x / 2 ^ k) (mod-eq_of_lt h) ∙ sym (mod-eq_of_lt (omega (arith, div-le_self n (2 ^ k), h)))

right_given : (sign : Bool) (width : Width) (a : ℤ) (k : ℕ) → Within sign width a → k < bits_of width
    → tos_result (tos_of ops.Shr sign) width (residue (words_of width) a) k ≡ Some (residue (words_of width) (floor_of a (2 ^ k)))
right_given true width a k h lt = counted_is width k _ lt ∙ ap Some (right_word width a k h lt)
right_given false width (pos n) k h lt = counted_is width k _ lt ∙ ap Some (unsigned_right width n k h)
right_given false width (negsuc n) k h lt = absurd h

-- ---- both

-- what is shifted to the right lies between 0 and a number in the range
floors_stay : (t : IntType) (a : ℤ) (p : ℕ) → InRange t a → narrowed t (word_of t (floor_of a p)) ≡ word_of t (floor_of a p)
floors_stay I.SChar (pos n) p r = words_in_range_stay I.SChar (pos (n / p)) (record { low = omega (arith, ints); high = omega (arith, ints, r.high, div-le_self n p) })
floors_stay I.SChar (negsuc n) p r = words_in_range_stay I.SChar (negsuc (n / p)) (record { low = omega (arith, ints, r.low, div-le_self n p); high = omega (arith, ints) })
floors_stay I.UChar (pos n) p r = words_in_range_stay I.UChar (pos (n / p)) (record { low = omega (arith, ints); high = omega (arith, ints, r.high, div-le_self n p) })
floors_stay I.UChar (negsuc n) p r = absurd (omega (arith, ints, r.low))
floors_stay I.Short a p r = refl
floors_stay I.UShort a p r = refl
floors_stay I.Int a p r = refl
floors_stay I.UInt a p r = refl
floors_stay I.Long a p r = refl
floors_stay I.ULong a p r = refl

module _ (t r : IntType) (a c z : ℤ) (range : InRange t a) where
  abbrev count : ℕ
  count = word_of r c

  word_is : (i : IsCount t c) → count ≡ i.times
  word_is i = ap (word_of r) i.is ∙ count_word (width_of r) i.times (omega (arith, i.below, most_bits t))

  left_given : (e : calculated ops.Shl t a c ≡ Ok (Whole z)) → GivesWord ops.Shl t (word_of t a) count z
  left_given e =
      let i = count_is t c (λ k. wrap_of t (a *ℤ pos (2 ^ k))) z e in
      let k = i.times in
      let y = a *ℤ pos (2 ^ k) in
      let same : number (wrap_of t y) ≡ number z = sym (ap (λ x. number_or ShiftCount (option_map (λ k. wrap_of t (a *ℤ pos (2 ^ k))) x)) i.counts) ∙ e in
      let f : wrap_of t y ≡ z = cc in
      record {
        word = word_of t y;
        given = ap (λ x. tos_result (tos_of ops.Shl (is_signed_of t)) (width_of t) (word_of t a) x) (word_is i) ∙ counted_is (width_of t) k _ (omega (arith, i.below, bits_fit t)) ∙ ap Some (left_word (width_of t) a k);
        is = words_are_wrapped t y ∙ ap (word_of t) f;
      }

  right_gives : (e : calculated ops.Shr t a c ≡ Ok (Whole z)) → GivesWord ops.Shr t (word_of t a) count z
  right_gives e =
      let i = count_is t c (λ k. floor_of a (2 ^ k)) z e in
      let k = i.times in
      let same : number (floor_of a (2 ^ k)) ≡ number z = sym (ap (λ x. number_or ShiftCount (option_map (λ k. floor_of a (2 ^ k)) x)) i.counts) ∙ e in
      let f : floor_of a (2 ^ k) ≡ z = cc in
      record {
        word = word_of t (floor_of a (2 ^ k));
        given = ap (λ x. tos_result (tos_of ops.Shr (is_signed_of t)) (width_of t) (word_of t a) x) (word_is i) ∙ right_given (is_signed_of t) (width_of t) a k (within t a range) (omega (arith, i.below, bits_fit t));
        is = floors_stay t a (2 ^ k) range ∙ ap (word_of t) f;
      }

pub shifts_are_on_words : ShiftsAreOnWords
shifts_are_on_words ops.Shl t r a c z h range e = left_given t r a c z range e
shifts_are_on_words ops.Shr t r a c z h range e = right_gives t r a c z range e
shifts_are_on_words ops.Mul t r a c z h range e = cc
shifts_are_on_words ops.Div t r a c z h range e = cc
shifts_are_on_words ops.Rem t r a c z h range e = cc
shifts_are_on_words ops.Add t r a c z h range e = cc
shifts_are_on_words ops.Sub t r a c z h range e = cc
shifts_are_on_words ops.Lt t r a c z h range e = cc
shifts_are_on_words ops.Gt t r a c z h range e = cc
shifts_are_on_words ops.Le t r a c z h range e = cc
shifts_are_on_words ops.Ge t r a c z h range e = cc
shifts_are_on_words ops.Eq t r a c z h range e = cc
shifts_are_on_words ops.Ne t r a c z h range e = cc
shifts_are_on_words ops.BitAnd t r a c z h range e = cc
shifts_are_on_words ops.BitXor t r a c z h range e = cc
shifts_are_on_words ops.BitOr t r a c z h range e = cc
