-- Words of numbers in the range of their type, and words that are wrapped and converted.
use Rattle.std.proofs.Common.{◌≡◌, ℕ, ◌%◌, ◌<◌, ℤ, pos, negsuc, Bool, true, false, refl, sym, ap, ◌∙◌, arith}
use Rattle.std.proofs.lemmas.Int.{ints}
use Rattle.std.proofs.lemmas.Bool.Decides.{nat_tests}
use Rattle.c65_ints.specs.declared.types.IntType.{IntType}
use Rattle.c65_ints.specs.declared.types.IntType.TheVariants as I
use Rattle.c65_ints.specs.Ranges.{modulus_of, is_signed_of, residue, placed, wrap_of, InRange}
use Rattle.c65_code.specs.declared.routine.Width.{Width}
use Rattle.c65_code.specs.declared.routine.Width.TheVariants.{Ax}
use Rattle.c65_code.specs.Numbers.{words_of, sign_of}
use Rattle.c65_genwide.specs.Wide.{width_of}
use Rattle.c65_agree_numbers.specs.Words.{word_of, narrowed, widened}
use Rattle.c65_agree_numbers.specs.Laws.{WordsAreWrapped, WordsInRangeStay, WordsAreConverted}
use Rattle.c65_agree_numbers.proofs.Residues.{word_below}

-- the numbers that words of a width may stand for
abbrev pub Within : Bool → Width → ℤ → Type 0
Within true width (pos n) = n < sign_of width
Within true width (negsuc n) = n < sign_of width
Within false width (pos n) = n < words_of width
Within false width (negsuc n) = ⊥

pub within : (t : IntType) (z : ℤ) → InRange t z → Within (is_signed_of t) (width_of t) z
within I.SChar (pos n) r = omega (arith, ints, r.high)
within I.SChar (negsuc n) r = omega (arith, ints, r.low)
within I.UChar (pos n) r = omega (arith, ints, r.high)
within I.UChar (negsuc n) r = omega (arith, ints, r.low)
within I.Short (pos n) r = omega (arith, ints, r.high)
within I.Short (negsuc n) r = omega (arith, ints, r.low)
within I.UShort (pos n) r = omega (arith, ints, r.high)
within I.UShort (negsuc n) r = omega (arith, ints, r.low)
within I.Int (pos n) r = omega (arith, ints, r.high)
within I.Int (negsuc n) r = omega (arith, ints, r.low)
within I.UInt (pos n) r = omega (arith, ints, r.high)
within I.UInt (negsuc n) r = omega (arith, ints, r.low)
within I.Long (pos n) r = omega (arith, ints, r.high)
within I.Long (negsuc n) r = omega (arith, ints, r.low)
within I.ULong (pos n) r = omega (arith, ints, r.high)
within I.ULong (negsuc n) r = omega (arith, ints, r.low)

-- a word modulo 2 to the bits of its type
pub residue_down : (t : IntType) (z : ℤ) → word_of t z % modulus_of t ≡ residue (modulus_of t) z
residue_down I.SChar (pos n) = omega arith
residue_down I.SChar (negsuc n) = omega arith
residue_down I.UChar (pos n) = omega arith
residue_down I.UChar (negsuc n) = omega arith
residue_down I.Short (pos n) = omega arith
residue_down I.Short (negsuc n) = omega arith
residue_down I.UShort (pos n) = omega arith
residue_down I.UShort (negsuc n) = omega arith
residue_down I.Int (pos n) = omega arith
residue_down I.Int (negsuc n) = omega arith
residue_down I.UInt (pos n) = omega arith
residue_down I.UInt (negsuc n) = omega arith
residue_down I.Long (pos n) = omega arith
residue_down I.Long (negsuc n) = omega arith
residue_down I.ULong (pos n) = omega arith
residue_down I.ULong (negsuc n) = omega arith

-- what is brought into the range is the word of the number that has this remainder
pub placed_word : (t : IntType) (n : ℕ) → n < words_of (width_of t) → narrowed t n ≡ word_of t (placed (is_signed_of t) (modulus_of t) (n % modulus_of t))
placed_word I.SChar n h = grind (arith, nat_tests)
placed_word I.UChar n h = omega arith
placed_word I.Short n h = grind (arith, nat_tests)
placed_word I.UShort n h = omega arith
placed_word I.Int n h = grind (arith, nat_tests)
placed_word I.UInt n h = omega arith
placed_word I.Long n h = grind (arith, nat_tests)
placed_word I.ULong n h = omega arith

pub narrowed_is : (t : IntType) (n : ℕ) (z : ℤ) → n < words_of (width_of t) → n % modulus_of t ≡ residue (modulus_of t) z → narrowed t n ≡ word_of t (wrap_of t z)
narrowed_is t n z h e = placed_word t n h ∙ ap (λ r. word_of t (placed (is_signed_of t) (modulus_of t) r)) e

pub words_are_wrapped : WordsAreWrapped
words_are_wrapped t z = narrowed_is t (word_of t z) z (word_below (width_of t) z) (residue_down t z)

pub words_in_range_stay : WordsInRangeStay
words_in_range_stay I.SChar (pos n) r = let h : n < 128 = omega (arith, ints, r.high) in grind (arith, nat_tests)
words_in_range_stay I.SChar (negsuc n) r = let h : n < 128 = omega (arith, ints, r.low) in grind (arith, nat_tests)
words_in_range_stay I.UChar (pos n) r = omega (arith, ints, r.high)
words_in_range_stay I.UChar (negsuc n) r = omega (arith, ints, r.low)
words_in_range_stay I.Short z r = refl
words_in_range_stay I.UShort z r = refl
words_in_range_stay I.Int z r = refl
words_in_range_stay I.UInt z r = refl
words_in_range_stay I.Long z r = refl
words_in_range_stay I.ULong z r = refl

-- ---- conversions

narrow_down : (from : IntType) (z : ℤ) → word_of from z % 65536 ≡ residue 65536 z
narrow_down I.SChar z = let h : residue 65536 z < 65536 = word_below Ax z in omega arith
narrow_down I.UChar z = let h : residue 65536 z < 65536 = word_below Ax z in omega arith
narrow_down I.Short z = let h : residue 65536 z < 65536 = word_below Ax z in omega arith
narrow_down I.UShort z = let h : residue 65536 z < 65536 = word_below Ax z in omega arith
narrow_down I.Int z = let h : residue 65536 z < 65536 = word_below Ax z in omega arith
narrow_down I.UInt z = let h : residue 65536 z < 65536 = word_below Ax z in omega arith
narrow_down I.Long (pos n) = omega arith
narrow_down I.Long (negsuc n) = omega arith
narrow_down I.ULong (pos n) = omega arith
narrow_down I.ULong (negsuc n) = omega arith

-- to a type of 16 bits or fewer
to_word : (to : IntType) (n : ℕ) (z : ℤ) → width_of to ≡ Ax → n ≡ residue 65536 z → narrowed to n ≡ word_of to (wrap_of to z)
to_word to n z e h =
    let same : n ≡ word_of to z = h ∙ ap (λ width. residue (words_of width) z) (sym e) in
    ap (narrowed to) same ∙ words_are_wrapped to z

-- to a type of 32 bits
to_long : (from : IntType) (z : ℤ) → InRange from z → widened (width_of from) (is_signed_of from) (word_of from z) ≡ residue 4294967296 z
to_long I.SChar (pos n) r = let h : n < 128 = omega (arith, ints, r.high) in grind (arith, nat_tests)
to_long I.SChar (negsuc n) r = let h : n < 128 = omega (arith, ints, r.low) in grind (arith, nat_tests)
to_long I.UChar (pos n) r = omega (arith, ints, r.high)
to_long I.UChar (negsuc n) r = omega (arith, ints, r.low)
to_long I.Short (pos n) r = let h : n < 32768 = omega (arith, ints, r.high) in grind (arith, nat_tests)
to_long I.Short (negsuc n) r = let h : n < 32768 = omega (arith, ints, r.low) in grind (arith, nat_tests)
to_long I.UShort (pos n) r = omega (arith, ints, r.high)
to_long I.UShort (negsuc n) r = omega (arith, ints, r.low)
to_long I.Int (pos n) r = let h : n < 32768 = omega (arith, ints, r.high) in grind (arith, nat_tests)
to_long I.Int (negsuc n) r = let h : n < 32768 = omega (arith, ints, r.low) in grind (arith, nat_tests)
to_long I.UInt (pos n) r = omega (arith, ints, r.high)
to_long I.UInt (negsuc n) r = omega (arith, ints, r.low)
to_long I.Long z r = refl
to_long I.ULong z r = refl

pub words_are_converted : WordsAreConverted
words_are_converted from I.SChar z r = to_word I.SChar (word_of from z % 65536) z refl (narrow_down from z)
words_are_converted from I.UChar z r = to_word I.UChar (word_of from z % 65536) z refl (narrow_down from z)
words_are_converted from I.Short z r = to_word I.Short (word_of from z % 65536) z refl (narrow_down from z)
words_are_converted from I.UShort z r = to_word I.UShort (word_of from z % 65536) z refl (narrow_down from z)
words_are_converted from I.Int z r = to_word I.Int (word_of from z % 65536) z refl (narrow_down from z)
words_are_converted from I.UInt z r = to_word I.UInt (word_of from z % 65536) z refl (narrow_down from z)
words_are_converted from I.Long z r = to_long from z r ∙ words_are_wrapped I.Long z
words_are_converted from I.ULong z r = to_long from z r ∙ words_are_wrapped I.ULong z
