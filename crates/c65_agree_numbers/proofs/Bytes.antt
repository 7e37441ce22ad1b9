-- Words of numbers in memory.
use Rattle.std.proofs.Common.{◌≡◌, ℕ, zero, suc, ◌/◌, ◌<◌, ◌≤◌, ℤ, pos, negsuc, refl, ap, ◌∙◌, arith}
use Rattle.std.specs.Prelude.{Ok}
use Rattle.std.proofs.lemmas.Nat.{and_mask}
use Rattle.std.proofs.Math.Nat.{mod-eq_of_lt}
use Rattle.c65_ints.specs.declared.types.IntType.{IntType}
use Rattle.c65_ints.specs.declared.types.IntType.TheVariants as I
use Rattle.c65_ints.specs.Ranges.{width_of as bits_in, modulus_of, is_signed_of, residue, placed}
use Rattle.c65_ctype.specs.Sizes.{bytes_of}
use Rattle.c65_meaning.specs.Integers.{byte_at}
use Rattle.c65_meaning.specs.Store.{Whole, Gathered, Lacking, Hidden, Found, gathered, as_number}
use Rattle.c65_code.specs.declared.routine.Width.{Width}
use Rattle.c65_code.specs.declared.routine.Width.TheVariants.{Ax, Eax}
use Rattle.c65_code.specs.Numbers.{words_of}
use Rattle.c65_genwide.specs.Wide.{width_of}
use Rattle.c65_agree_store.specs.Laws.{number_in, byte_of}
use Rattle.c65_agree_store.proofs.Read.{numbers_are_read}
use Rattle.c65_agree_numbers.specs.Words.{word_of}
use Rattle.c65_agree_numbers.specs.Laws.{NumbersAreLaid, NumbersAreLoaded}
use Rattle.c65_agree_numbers.proofs.Ranges.{placed_word}

-- ---- laid down

abbrev register_bytes : Width → ℕ
register_bytes Ax = 2
register_bytes Eax = 4

bytes_fit : (t : IntType) → bytes_of t ≤ register_bytes (width_of t)
bytes_fit I.SChar = omega arith
bytes_fit I.UChar = omega arith
bytes_fit I.Short = omega arith
bytes_fit I.UShort = omega arith
bytes_fit I.Int = omega arith
bytes_fit I.UInt = omega arith
bytes_fit I.Long = omega arith
bytes_fit I.ULong = omega arith

byte_is : (width : Width) (z : ℤ) (i : ℕ) → i < register_bytes width → byte_of i (residue (words_of width) z) ≡ byte_at i z
byte_is Ax (pos n) zero h = omega arith
byte_is Ax (pos n) (suc zero) h = omega arith
byte_is Ax (negsuc n) zero h = omega arith
byte_is Ax (negsuc n) (suc zero) h = omega arith
byte_is Ax z (suc (suc i)) h = absurd (omega arith)
byte_is Eax (pos n) zero h = omega arith
byte_is Eax (pos n) (suc zero) h = omega arith
byte_is Eax (pos n) (suc (suc zero)) h = omega arith
byte_is Eax (pos n) (suc (suc (suc zero))) h = omega arith
byte_is Eax (negsuc n) zero h = omega arith
byte_is Eax (negsuc n) (suc zero) h = omega arith
byte_is Eax (negsuc n) (suc (suc zero)) h = omega arith
byte_is Eax (negsuc n) (suc (suc (suc zero))) h = omega arith
byte_is Eax z (suc (suc (suc (suc i)))) h = absurd (omega arith)

byte_below : (i n : ℕ) → byte_of i n < 256
byte_below zero n = omega arith
byte_below (suc i) n = byte_below i (n / 256)

pub numbers_are_laid : NumbersAreLaid
numbers_are_laid w t z i h = and_mask (byte_of i (word_of t z)) 8 ∙ mod-eq_of_lt (byte_below i (word_of t z)) ∙ byte_is (width_of t) z i (omega (arith, h, bytes_fit t))

-- ---- loaded

number_below : (t : IntType) (f : ℕ → ℕ) (o : ℕ) → ((p : ℕ) → f p < 256) → number_in f (bytes_of t) o < modulus_of t
number_below I.SChar f o b = omega (arith, b o)
number_below I.UChar f o b = omega (arith, b o)
number_below I.Short f o b = omega (arith, b o, b (suc o))
number_below I.UShort f o b = omega (arith, b o, b (suc o))
number_below I.Int f o b = omega (arith, b o, b (suc o))
number_below I.UInt f o b = omega (arith, b o, b (suc o))
number_below I.Long f o b = omega (arith, b o, b (suc o), b (suc (suc o)), b (suc (suc (suc o))))
number_below I.ULong f o b = omega (arith, b o, b (suc o), b (suc (suc o)), b (suc (suc (suc o))))

fits_register : (t : IntType) → modulus_of t ≤ words_of (width_of t)
fits_register I.SChar = omega arith
fits_register I.UChar = omega arith
fits_register I.Short = omega arith
fits_register I.UShort = omega arith
fits_register I.Int = omega arith
fits_register I.UInt = omega arith
fits_register I.Long = omega arith
fits_register I.ULong = omega arith

-- the number that was found, and what it comes to
record IsFound (t : IntType) (g : Gathered) (z : ℤ) : Type 0 where
  number : ℕ
  found : g ≡ Found number
  is : placed (is_signed_of t) (modulus_of t) number ≡ z

found : (t : IntType) (g : Gathered) (z : ℤ) → as_number (is_signed_of t) (bits_in t) g ≡ Ok (Whole z) → IsFound t g z
found t Lacking z e = cc
found t Hidden z e = cc
found t (Found n) z e = record { number = n; found = refl; is = cc }

pub numbers_are_loaded : NumbersAreLoaded
numbers_are_loaded w t cells f o z bytes is e =
    let g = found t (gathered (bytes_of t) cells o) z e in
    let n = number_in f (bytes_of t) o in
    let same : n ≡ g.number = numbers_are_read w cells f (bytes_of t) o g.number bytes is g.found in
    let low : n < modulus_of t = number_below t f o bytes in
    placed_word t n (omega (arith, low, fits_register t)) ∙ ap (λ r. word_of t (placed (is_signed_of t) (modulus_of t) r)) (mod-eq_of_lt low ∙ same) ∙ ap (word_of t) g.is
