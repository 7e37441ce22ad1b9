-- Numbers of one type are told apart by their words, and words by their bytes.
use Rattle.std.proofs.Common.{◌≡◌, ℤ, pos, negsuc, ◌+◌, ◌*◌, ◌<◌, Bool, true, false, refl, ap, subst, arith}
use Rattle.std.specs.Prelude.{IsTrue}
use Rattle.std.proofs.lemmas.Bool.Decides.{nat_tests}
use Rattle.std.proofs.lemmas.Int.{ints}
use Rattle.c65_ints.specs.declared.types.IntType.{IntType}
use Rattle.c65_ints.specs.declared.types.IntType.TheVariants as I
use Rattle.c65_ints.specs.Ranges.{residue, InRange}
use Rattle.c65_meaning.specs.Integers.{same_number}
use Rattle.c65_agree_choice.specs.Cases.{number_word}
use Rattle.c65_agree_choice.specs.Laws.{WordsTellNumbers}
use Rattle.c65_genentry.specs.Choice.{bits_of, byte_of, is_byte}

pub same_itself : (z : ℤ) → same_number z z ≡ true
same_itself (pos n) = grind (arith, nat_tests)
same_itself (negsuc n) = grind (arith, nat_tests)

pub same_is : (z y : ℤ) → same_number z y ≡ true → z ≡ y
same_is (pos n) (pos m) e = let h : n ≡ m = grind (arith, nat_tests, e) in ap pos h
same_is (pos n) (negsuc m) e = cc
same_is (negsuc n) (pos m) e = cc
same_is (negsuc n) (negsuc m) e = let h : n ≡ m = grind (arith, nat_tests, e) in ap negsuc h

pub word_of_same : (kind : IntType) (z y : ℤ) → same_number z y ≡ true → number_word kind z ≡ number_word kind y
word_of_same kind z y e = ap (number_word kind) (same_is z y e)

-- numbers of one type that have one word are the same
of_words : (kind : IntType) (z y : ℤ) → InRange kind z → InRange kind y → number_word kind z ≡ number_word kind y → z ≡ y
of_words I.SChar (pos n) (pos m) r s e = omega (arith, ints, r.low, r.high, s.low, s.high, e)
of_words I.SChar (pos n) (negsuc m) r s e = omega (arith, ints, r.low, r.high, s.low, s.high, e)
of_words I.SChar (negsuc n) (pos m) r s e = omega (arith, ints, r.low, r.high, s.low, s.high, e)
of_words I.SChar (negsuc n) (negsuc m) r s e = omega (arith, ints, r.low, r.high, s.low, s.high, e)
of_words I.UChar (pos n) (pos m) r s e = omega (arith, ints, r.low, r.high, s.low, s.high, e)
of_words I.UChar (pos n) (negsuc m) r s e = omega (arith, ints, r.low, r.high, s.low, s.high, e)
of_words I.UChar (negsuc n) (pos m) r s e = omega (arith, ints, r.low, r.high, s.low, s.high, e)
of_words I.UChar (negsuc n) (negsuc m) r s e = omega (arith, ints, r.low, r.high, s.low, s.high, e)
of_words I.Short (pos n) (pos m) r s e = omega (arith, ints, r.low, r.high, s.low, s.high, e)
of_words I.Short (pos n) (negsuc m) r s e = omega (arith, ints, r.low, r.high, s.low, s.high, e)
of_words I.Short (negsuc n) (pos m) r s e = omega (arith, ints, r.low, r.high, s.low, s.high, e)
of_words I.Short (negsuc n) (negsuc m) r s e = omega (arith, ints, r.low, r.high, s.low, s.high, e)
of_words I.UShort (pos n) (pos m) r s e = omega (arith, ints, r.low, r.high, s.low, s.high, e)
of_words I.UShort (pos n) (negsuc m) r s e = omega (arith, ints, r.low, r.high, s.low, s.high, e)
of_words I.UShort (negsuc n) (pos m) r s e = omega (arith, ints, r.low, r.high, s.low, s.high, e)
of_words I.UShort (negsuc n) (negsuc m) r s e = omega (arith, ints, r.low, r.high, s.low, s.high, e)
of_words I.Int (pos n) (pos m) r s e = omega (arith, ints, r.low, r.high, s.low, s.high, e)
of_words I.Int (pos n) (negsuc m) r s e = omega (arith, ints, r.low, r.high, s.low, s.high, e)
of_words I.Int (negsuc n) (pos m) r s e = omega (arith, ints, r.low, r.high, s.low, s.high, e)
of_words I.Int (negsuc n) (negsuc m) r s e = omega (arith, ints, r.low, r.high, s.low, s.high, e)
of_words I.UInt (pos n) (pos m) r s e = omega (arith, ints, r.low, r.high, s.low, s.high, e)
of_words I.UInt (pos n) (negsuc m) r s e = omega (arith, ints, r.low, r.high, s.low, s.high, e)
of_words I.UInt (negsuc n) (pos m) r s e = omega (arith, ints, r.low, r.high, s.low, s.high, e)
of_words I.UInt (negsuc n) (negsuc m) r s e = omega (arith, ints, r.low, r.high, s.low, s.high, e)
of_words I.Long (pos n) (pos m) r s e = omega (arith, ints, r.low, r.high, s.low, s.high, e)
of_words I.Long (pos n) (negsuc m) r s e = omega (arith, ints, r.low, r.high, s.low, s.high, e)
of_words I.Long (negsuc n) (pos m) r s e = omega (arith, ints, r.low, r.high, s.low, s.high, e)
of_words I.Long (negsuc n) (negsuc m) r s e = omega (arith, ints, r.low, r.high, s.low, s.high, e)
of_words I.ULong (pos n) (pos m) r s e = omega (arith, ints, r.low, r.high, s.low, s.high, e)
of_words I.ULong (pos n) (negsuc m) r s e = omega (arith, ints, r.low, r.high, s.low, s.high, e)
of_words I.ULong (negsuc n) (pos m) r s e = omega (arith, ints, r.low, r.high, s.low, s.high, e)
of_words I.ULong (negsuc n) (negsuc m) r s e = omega (arith, ints, r.low, r.high, s.low, s.high, e)

pub same_of_word : (kind : IntType) (z y : ℤ) → InRange kind z → InRange kind y → number_word kind z ≡ number_word kind y → same_number z y ≡ true
same_of_word kind z y r s e = subst (λ x. same_number z x ≡ true) (of_words kind z y r s e) (same_itself z)

-- a number of another word is another one
pub other_of_word : (kind : IntType) (z y : ℤ) → (number_word kind z ≡ number_word kind y → ⊥) → same_number z y ≡ false
other_of_word kind z y other = go (same_number z y) refl
  where
    go : (b : Bool) → same_number z y ≡ b → b ≡ false
    go true e = absurd (other (word_of_same kind z y e))
    go false e = refl

pub words_tell_numbers : WordsTellNumbers
words_tell_numbers kind z y r s = (word_of_same kind z y, same_of_word kind z y r s)

-- ---- bytes

-- of a word of 16 bits and of one of 32
pub narrow_word : (z : ℤ) → byte_of (bits_of z) 1 + 256 * byte_of (bits_of z) 256 ≡ residue 65536 z
narrow_word (pos n) = omega arith
narrow_word (negsuc n) = omega arith

pub wide_word : (z : ℤ) → byte_of (bits_of z) 1 + 256 * byte_of (bits_of z) 256 + 65536 * (byte_of (bits_of z) 65536 + 256 * byte_of (bits_of z) 16777216) ≡ residue 4294967296 z
wide_word (pos n) = omega arith
wide_word (negsuc n) = omega arith

-- a number from 0 to 255 is its own lowest byte
pub own_byte : (z : ℤ) → IsTrue (is_byte z) → byte_of (bits_of z) 1 ≡ residue 65536 z
own_byte (pos n) h = let lt : n < 256 = grind (arith, nat_tests, h) in omega (arith, lt)
own_byte (negsuc n) h = let no : false ≡ true = h in cc

pub bytes_are_low : (z : ℤ) → IsTrue (is_byte z) → residue 65536 z < 256
bytes_are_low (pos n) h = let lt : n < 256 = grind (arith, nat_tests, h) in omega (arith, lt)
bytes_are_low (negsuc n) h = let no : false ≡ true = h in cc
