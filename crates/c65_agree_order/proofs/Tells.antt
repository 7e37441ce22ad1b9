-- What relations tell of two words, and of two bytes.
use Rattle.std.proofs.Common.{◌≡◌, ℕ, ◌+◌, ◌<◌, ◌⊎◌, inl, inr, ℤ, pos, negsuc, Bool, true, false, Some, refl, sym, ap, ◌∙◌, arith}
use Rattle.std.specs.Prelude.{◌==◌, not, nat_lt, nat_le, Ok}
use Rattle.std.specs.Bool.{beq}
use Rattle.std.proofs.lemmas.Int.{ints}
use Rattle.std.proofs.lemmas.Bool.{cases_eq}
use Rattle.std.proofs.lemmas.Bool.Decides.{nat_tests}
use Rattle.c65_base.specs.declared.operators.BinaryOp.{BinaryOp}
use Rattle.c65_base.specs.declared.operators.BinaryOp.TheVariants as ops
use Rattle.c65_ints.specs.declared.types.IntType.{IntType}
use Rattle.c65_ints.specs.declared.types.IntType.TheVariants.{UChar}
use Rattle.c65_ints.specs.Ranges.{is_signed_of, InRange, residue}
use Rattle.c65_meaning.specs.Integers.{truth}
use Rattle.c65_meaning.specs.Store.{Whole}
use Rattle.c65_meaning.specs.Operators.{calculated}
use Rattle.c65_code.specs.declared.routine.Width.{Width}
use Rattle.c65_code.specs.declared.routine.Width.TheVariants.{Ax, Eax}
use Rattle.c65_code.specs.Numbers.{words_of, sign_of, turned, tos_result}
use Rattle.c65_genwide.specs.Wide.{width_of, tos_of}
use Rattle.c65_gendirect.specs.declared.relation.Relation.{Relation}
use Rattle.c65_gendirect.specs.declared.relation.Relation.TheVariants.{Less, NotLess, Greater, NotGreater, Equal, Unequal}
use Rattle.c65_gendirect.specs.Compare.{relation_of, negated, mirrored}
use Rattle.c65_genexpr.specs.Comparing.{relation_by}
use Rattle.c65_agree_numbers.specs.Words.{word_of}
use Rattle.c65_agree_numbers.proofs.Tests.{equal, unequal}
use Rattle.c65_agree_compare.proofs.Stacked.{word_in, word_given}
use Rattle.c65_agree_compare.proofs.Orders.{holds}
use Rattle.c65_agree_compare.proofs.Directs.{some_is, some_truth, order_compares, negated_holds}

-- whether two words of a width have a relation, with or without sign
abbrev pub tells : Relation → Bool → Width → ℕ → ℕ → Bool
tells Equal sign width m n = m == n
tells Unequal sign width m n = not (m == n)
tells r true width m n = holds r (turned width m) (turned width n)
tells r false width m n = holds r m n

-- ---- of the words of two numbers

told : (width : Width) (m n : ℕ) (y : Bool) (op : BinaryOp) (sign : Bool) (r : Relation) → relation_of op ≡ Some r → tos_result (tos_of op sign) width m n ≡ Some (word_in y) → tells r sign width m n ≡ y
told width m n y ops.Lt true r e h = ap (λ z. tells z true width m n) (some_is Less r e) ∙ some_truth (nat_lt (turned width m) (turned width n)) y h
told width m n y ops.Lt false r e h = ap (λ z. tells z false width m n) (some_is Less r e) ∙ some_truth (nat_lt m n) y h
told width m n y ops.Ge true r e h = ap (λ z. tells z true width m n) (some_is NotLess r e) ∙ some_truth (nat_le (turned width n) (turned width m)) y h
told width m n y ops.Ge false r e h = ap (λ z. tells z false width m n) (some_is NotLess r e) ∙ some_truth (nat_le n m) y h
told width m n y ops.Gt true r e h = ap (λ z. tells z true width m n) (some_is Greater r e) ∙ some_truth (nat_lt (turned width n) (turned width m)) y h
told width m n y ops.Gt false r e h = ap (λ z. tells z false width m n) (some_is Greater r e) ∙ some_truth (nat_lt n m) y h
told width m n y ops.Le true r e h = ap (λ z. tells z true width m n) (some_is NotGreater r e) ∙ some_truth (nat_le (turned width m) (turned width n)) y h
told width m n y ops.Le false r e h = ap (λ z. tells z false width m n) (some_is NotGreater r e) ∙ some_truth (nat_le m n) y h
told width m n y ops.Eq sign r e h = ap (λ z. tells z sign width m n) (some_is Equal r e) ∙ some_truth (m == n) y h
told width m n y ops.Ne sign r e h = ap (λ z. tells z sign width m n) (some_is Unequal r e) ∙ some_truth (not (m == n)) y h
told width m n y ops.Mul sign r e h = absurd (cc)
told width m n y ops.Div sign r e h = absurd (cc)
told width m n y ops.Rem sign r e h = absurd (cc)
told width m n y ops.Add sign r e h = absurd (cc)
told width m n y ops.Sub sign r e h = absurd (cc)
told width m n y ops.Shl sign r e h = absurd (cc)
told width m n y ops.Shr sign r e h = absurd (cc)
told width m n y ops.BitAnd sign r e h = absurd (cc)
told width m n y ops.BitXor sign r e h = absurd (cc)
told width m n y ops.BitOr sign r e h = absurd (cc)

pub words_tell : (op : BinaryOp) (r : Relation) (t : IntType) (p q : ℤ) (y : Bool) → relation_of op ≡ Some r → InRange t p → InRange t q → calculated op t p q ≡ Ok (Whole (truth y)) → tells r (is_signed_of t) (width_of t) (word_of t p) (word_of t q) ≡ y
words_tell op r t p q y e left right is = told (width_of t) (word_of t p) (word_of t q) y op (is_signed_of t) r e (word_given op t p q (truth y) y (order_compares op r e) left right is refl)

-- ---- in the other sense, and with the sides changed

twice : (x : Bool) → x ≡ not (not x)
twice true = refl
twice false = refl

negated_tells : (r : Relation) (sign : Bool) (width : Width) (m n : ℕ) → tells (negated r) sign width m n ≡ not (tells r sign width m n)
negated_tells Equal sign width m n = refl
negated_tells Unequal sign width m n = twice (m == n)
negated_tells Less true width m n = negated_holds Less (turned width m) (turned width n) tt
negated_tells Less false width m n = negated_holds Less m n tt
negated_tells NotLess true width m n = negated_holds NotLess (turned width m) (turned width n) tt
negated_tells NotLess false width m n = negated_holds NotLess m n tt
negated_tells Greater true width m n = negated_holds Greater (turned width m) (turned width n) tt
negated_tells Greater false width m n = negated_holds Greater m n tt
negated_tells NotGreater true width m n = negated_holds NotGreater (turned width m) (turned width n) tt
negated_tells NotGreater false width m n = negated_holds NotGreater m n tt

pub sense_tells : (s : Bool) (r : Relation) (sign : Bool) (width : Width) (m n : ℕ) (y : Bool) → tells r sign width m n ≡ y → tells (relation_by s r) sign width m n ≡ beq y s
sense_tells true r sign width m n true e = e
sense_tells true r sign width m n false e = e
sense_tells false r sign width m n true e = negated_tells r sign width m n ∙ ap not e
sense_tells false r sign width m n false e = negated_tells r sign width m n ∙ ap not e

changed_equal : (m n : ℕ) → (n == m) ≡ (m == n)
changed_equal m n = go (cases_eq m n)
  where
    go : (m ≡ n) ⊎ (m ≡ n → ⊥) → (n == m) ≡ (m == n)
    go (inl h) = equal n m (sym h) ∙ sym (equal m n h)
    go (inr h) = unequal n m (λ e. h (sym e)) ∙ sym (unequal m n h)

pub mirrored_tells : (r : Relation) (sign : Bool) (width : Width) (m n : ℕ) → tells (mirrored r) sign width n m ≡ tells r sign width m n
mirrored_tells Equal sign width m n = changed_equal m n
mirrored_tells Unequal sign width m n = ap not (changed_equal m n)
mirrored_tells Less true width m n = refl
mirrored_tells Less false width m n = refl
mirrored_tells NotLess true width m n = refl
mirrored_tells NotLess false width m n = refl
mirrored_tells Greater true width m n = refl
mirrored_tells Greater false width m n = refl
mirrored_tells NotGreater true width m n = refl
mirrored_tells NotGreater false width m n = refl

-- ---- bytes, which no sign is in

raised_less : (m n k : ℕ) → nat_lt (m + k) (n + k) ≡ nat_lt m n
raised_less m n k = go (nat_lt m n) refl
  where
    go : (b : Bool) → nat_lt m n ≡ b → nat_lt (m + k) (n + k) ≡ b
    go true e = grind (arith, nat_tests)
    go false e = grind (arith, nat_tests)

raised_most : (m n k : ℕ) → nat_le (m + k) (n + k) ≡ nat_le m n
raised_most m n k = go (nat_le m n) refl
  where
    go : (b : Bool) → nat_le m n ≡ b → nat_le (m + k) (n + k) ≡ b
    go true e = grind (arith, nat_tests)
    go false e = grind (arith, nat_tests)

turned_byte : (width : Width) (n : ℕ) → n < 256 → turned width n ≡ n + sign_of width
turned_byte Ax n h = omega (arith, h)
turned_byte Eax n h = omega (arith, h)

turned_holds : (r : Relation) (width : Width) (m n : ℕ) → m < 256 → n < 256 → holds r (turned width m) (turned width n) ≡ holds r m n
turned_holds r width m n f h = ap (λ i. holds r i (turned width n)) (turned_byte width m f) ∙ ap (holds r (m + sign_of width)) (turned_byte width n h) ∙ same r
  where
    same : (x : Relation) → holds x (m + sign_of width) (n + sign_of width) ≡ holds x m n
    same Less = raised_less m n (sign_of width)
    same NotLess = raised_most n m (sign_of width)
    same Greater = raised_less n m (sign_of width)
    same NotGreater = raised_most m n (sign_of width)
    same Equal = raised_most m n (sign_of width)
    same Unequal = raised_most m n (sign_of width)

small_tells : (r : Relation) (sign : Bool) (width : Width) (m n : ℕ) → m < 256 → n < 256 → tells r false Ax m n ≡ tells r sign width m n
small_tells Equal sign width m n f h = refl
small_tells Unequal sign width m n f h = refl
small_tells Less true width m n f h = sym (turned_holds Less width m n f h)
small_tells Less false width m n f h = refl
small_tells NotLess true width m n f h = sym (turned_holds NotLess width m n f h)
small_tells NotLess false width m n f h = refl
small_tells Greater true width m n f h = sym (turned_holds Greater width m n f h)
small_tells Greater false width m n f h = refl
small_tells NotGreater true width m n f h = sym (turned_holds NotGreater width m n f h)
small_tells NotGreater false width m n f h = refl

byte_word : (width : Width) (z : ℤ) → InRange UChar z → residue (words_of width) z ≡ residue 256 z
byte_word Ax (pos n) r = omega (arith, ints, r.high)
byte_word Eax (pos n) r = omega (arith, ints, r.high)
byte_word width (negsuc n) r = absurd (omega (arith, ints, r.low))

pub byte_below : (z : ℤ) → residue 256 z < 256
byte_below (pos n) = omega arith
byte_below (negsuc n) = omega arith

pub bytes_tell : (op : BinaryOp) (r : Relation) (t : IntType) (p q : ℤ) (y : Bool) → relation_of op ≡ Some r → InRange UChar p → InRange UChar q → InRange t p → InRange t q → calculated op t p q ≡ Ok (Whole (truth y)) → tells r false Ax (residue 256 p) (residue 256 q) ≡ y
bytes_tell op r t p q y e small small2 left right is =
    small_tells r (is_signed_of t) (width_of t) (residue 256 p) (residue 256 q) (byte_below p) (byte_below q)
    ∙ ap (λ i. tells r (is_signed_of t) (width_of t) i (residue 256 q)) (sym (byte_word (width_of t) p small)) ∙ ap (tells r (is_signed_of t) (width_of t) (word_of t p)) (sym (byte_word (width_of t) q small2))
    ∙ words_tell op r t p q y e left right is
