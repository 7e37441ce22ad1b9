-- Bytes of numbers and of words.
use Rattle.std.proofs.Common.{◌≡◌, ℕ, zero, suc, ◌+◌, ◌-◌, ◌*◌, ◌/◌, ◌%◌, ◌<◌, ◌≤◌, ℤ, pos, negsuc, Bool, true, false, refl, sym, ap, ◌∙◌, arith}
use Rattle.std.specs.Prelude.{nat_le, if◌then◌else◌, ◌==◌}
use Rattle.std.proofs.lemmas.Bool.Decides.{nat_tests}
use Rattle.c65_ints.specs.declared.types.IntType.{IntType}
use Rattle.c65_ints.specs.declared.types.IntType.TheVariants as I
use Rattle.c65_ints.specs.Ranges.{modulus_of, is_signed_of, residue, placed, wrap_of, InRange}
use Rattle.c65_ctype.specs.Sizes.{bytes_of}
use Rattle.c65_meaning.specs.Integers.{byte_at}
use Rattle.c65_code.specs.declared.routine.Width.{Width}
use Rattle.c65_code.specs.declared.routine.Width.TheVariants.{Ax, Eax}
use Rattle.c65_code.specs.Numbers.{words_of}
use Rattle.c65_genwide.specs.Wide.{width_of}
use Rattle.c65_genload.specs.Conversions.{size_of}
use Rattle.c65_gendirect.specs.Bytes.{number_byte}
use Rattle.c65_genexpr.specs.Operands.{residue_of}
use Rattle.c65_agree_store.specs.Laws.{number_in, byte_of}
use Rattle.c65_agree_numbers.specs.Words.{word_of, narrowed}
use Rattle.c65_agree_numbers.proofs.Ranges.{Within, within, words_are_wrapped}
use Rattle.c65_agree_direct.specs.Operands.{register_bytes}

-- ---- sizes

pub sizes_agree : (kind : IntType) → size_of kind ≡ bytes_of kind
sizes_agree I.SChar = refl
sizes_agree I.UChar = refl
sizes_agree I.Short = refl
sizes_agree I.UShort = refl
sizes_agree I.Int = refl
sizes_agree I.UInt = refl
sizes_agree I.Long = refl
sizes_agree I.ULong = refl

pub fits_register : (kind : IntType) → size_of kind ≤ register_bytes (width_of kind)
fits_register I.SChar = omega arith
fits_register I.UChar = omega arith
fits_register I.Short = omega arith
fits_register I.UShort = omega arith
fits_register I.Int = omega arith
fits_register I.UInt = omega arith
fits_register I.Long = omega arith
fits_register I.ULong = omega arith

pub below_words : (kind : IntType) (width : Width) → size_of kind ≤ register_bytes width → modulus_of kind ≤ words_of width
below_words I.SChar Ax h = omega arith
below_words I.UChar Ax h = omega arith
below_words I.Short Ax h = omega arith
below_words I.UShort Ax h = omega arith
below_words I.Int Ax h = omega arith
below_words I.UInt Ax h = omega arith
below_words I.Long Ax h = absurd (omega (arith, h))
below_words I.ULong Ax h = absurd (omega (arith, h))
below_words I.SChar Eax h = omega arith
below_words I.UChar Eax h = omega arith
below_words I.Short Eax h = omega arith
below_words I.UShort Eax h = omega arith
below_words I.Int Eax h = omega arith
below_words I.UInt Eax h = omega arith
below_words I.Long Eax h = omega arith
below_words I.ULong Eax h = omega arith

-- ---- bytes of a word

pub byte_is : (width : Width) (z : ℤ) (i : ℕ) → i < register_bytes width → byte_of i (residue (words_of width) z) ≡ byte_at i z
byte_is Ax (pos n) zero h = omega arith
byte_is Ax (pos n) (suc zero) h = omega arith
byte_is Ax (negsuc n) zero h = omega arith
byte_is Ax (negsuc n) (suc zero) h = omega arith
byte_is Ax z (suc (suc i)) h = absurd (omega (arith, h))
byte_is Eax (pos n) zero h = omega arith
byte_is Eax (pos n) (suc zero) h = omega arith
byte_is Eax (pos n) (suc (suc zero)) h = omega arith
byte_is Eax (pos n) (suc (suc (suc zero))) h = omega arith
byte_is Eax (negsuc n) zero h = omega arith
byte_is Eax (negsuc n) (suc zero) h = omega arith
byte_is Eax (negsuc n) (suc (suc zero)) h = omega arith
byte_is Eax (negsuc n) (suc (suc (suc zero))) h = omega arith
byte_is Eax z (suc (suc (suc (suc i)))) h = absurd (omega (arith, h))

pub byte_of_none : (i : ℕ) → byte_of i 0 ≡ 0
byte_of_none zero = refl
byte_of_none (suc i) = byte_of_none i

-- of a number that bytes make
byte_within : (f : ℕ → ℕ) (n o i : ℕ) → ((p : ℕ) → f p < 256) → i < n → byte_of i (number_in f n o) ≡ f (o + i)
byte_within f zero o i bytes lt = absurd (omega (arith, lt))
byte_within f (suc n) o zero bytes lt = let here : o + 0 ≡ o = omega arith in let low : (f o + 256 * number_in f n (suc o)) % 256 ≡ f o = omega (arith, bytes o) in low ∙ ap f (sym here)
byte_within f (suc n) o (suc i) bytes lt =
    let rest : (f o + 256 * number_in f n (suc o)) / 256 ≡ number_in f n (suc o) = omega (arith, bytes o) in
    let on : suc o + i ≡ o + suc i = omega arith in
    ap (byte_of i) rest ∙ byte_within f n (suc o) i bytes (omega (arith, lt)) ∙ ap f on

pub byte_first : (f : ℕ → ℕ) (n i : ℕ) → ((p : ℕ) → f p < 256) → i < n → byte_of i (number_in f n 0) ≡ f i
byte_first f n i bytes lt = let from_none : 0 + i ≡ i = omega arith in byte_within f n 0 i bytes lt ∙ ap f from_none

pub byte_behind : (f : ℕ → ℕ) (n o i : ℕ) → ((p : ℕ) → f p < 256) → n ≤ i → byte_of i (number_in f n o) ≡ 0
byte_behind f zero o i bytes le = byte_of_none i
byte_behind f (suc n) o zero bytes le = absurd (omega (arith, le))
byte_behind f (suc n) o (suc i) bytes le =
    let rest : (f o + 256 * number_in f n (suc o)) / 256 ≡ number_in f n (suc o) = omega (arith, bytes o) in
    ap (byte_of i) rest ∙ byte_behind f n (suc o) i bytes (omega (arith, le))

-- the same bytes make the same number
pub number_same : (f h : ℕ → ℕ) (n o : ℕ) → ((p : ℕ) → o ≤ p → p < o + n → f p ≡ h p) → number_in f n o ≡ number_in h n o
number_same f h zero o same = refl
number_same f h (suc n) o same =
    let here : f o ≡ h o = same o (omega arith) (omega arith) in
    let rest : number_in f n (suc o) ≡ number_in h n (suc o) = number_same f h n (suc o) (λ p lo hi. same p (omega (arith, lo)) (omega (arith, hi))) in
    omega (arith, here, rest)

pub number_below : (kind : IntType) (f : ℕ → ℕ) → ((p : ℕ) → f p < 256) → number_in f (size_of kind) 0 < modulus_of kind
number_below I.SChar f b = omega (arith, b 0)
number_below I.UChar f b = omega (arith, b 0)
number_below I.Short f b = omega (arith, b 0, b 1)
number_below I.UShort f b = omega (arith, b 0, b 1)
number_below I.Int f b = omega (arith, b 0, b 1)
number_below I.UInt f b = omega (arith, b 0, b 1)
number_below I.Long f b = omega (arith, b 0, b 1, b 2, b 3)
number_below I.ULong f b = omega (arith, b 0, b 1, b 2, b 3)

-- ---- bytes of a number that is converted

narrowed_byte : (kind : IntType) (n i : ℕ) → i < size_of kind → byte_of i (narrowed kind n) ≡ byte_of i n
narrowed_byte I.SChar n zero h = grind (arith, nat_tests)
narrowed_byte I.SChar n (suc i) h = absurd (omega (arith, h))
narrowed_byte I.UChar n zero h = omega arith
narrowed_byte I.UChar n (suc i) h = absurd (omega (arith, h))
narrowed_byte I.Short n i h = refl
narrowed_byte I.UShort n i h = refl
narrowed_byte I.Int n i h = refl
narrowed_byte I.UInt n i h = refl
narrowed_byte I.Long n i h = refl
narrowed_byte I.ULong n i h = refl

word_byte : (kind : IntType) (z : ℤ) (i : ℕ) → i < size_of kind → byte_of i (word_of kind z) ≡ byte_at i z
word_byte kind z i lt = byte_is (width_of kind) z i (omega (arith, lt, fits_register kind))

pub wrapped_byte : (to : IntType) (z : ℤ) (i : ℕ) → i < size_of to → byte_at i (wrap_of to z) ≡ byte_at i z
wrapped_byte to z i lt =
    sym (word_byte to (wrap_of to z) i lt) ∙ ap (byte_of i) (sym (words_are_wrapped to z)) ∙ narrowed_byte to (word_of to z) i lt ∙ word_byte to z i lt

residue_bytes : (to : IntType) (z : ℤ) → residue (modulus_of to) z ≡ number_in (λ i. byte_at i z) (size_of to) 0
residue_bytes I.SChar (pos n) = omega arith
residue_bytes I.SChar (negsuc n) = omega arith
residue_bytes I.UChar (pos n) = omega arith
residue_bytes I.UChar (negsuc n) = omega arith
residue_bytes I.Short (pos n) = omega arith
residue_bytes I.Short (negsuc n) = omega arith
residue_bytes I.UShort (pos n) = omega arith
residue_bytes I.UShort (negsuc n) = omega arith
residue_bytes I.Int (pos n) = omega arith
residue_bytes I.Int (negsuc n) = omega arith
residue_bytes I.UInt (pos n) = omega arith
residue_bytes I.UInt (negsuc n) = omega arith
residue_bytes I.Long (pos n) = omega arith
residue_bytes I.Long (negsuc n) = omega arith
residue_bytes I.ULong (pos n) = omega arith
residue_bytes I.ULong (negsuc n) = omega arith

unsigned_wrap : (to : IntType) (z : ℤ) → is_signed_of to ≡ false → wrap_of to z ≡ pos (residue (modulus_of to) z)
unsigned_wrap I.SChar z e = cc
unsigned_wrap I.UChar z e = refl
unsigned_wrap I.Short z e = cc
unsigned_wrap I.UShort z e = refl
unsigned_wrap I.Int z e = cc
unsigned_wrap I.UInt z e = refl
unsigned_wrap I.Long z e = cc
unsigned_wrap I.ULong z e = refl

-- to a type without sign: the number of the lowest bytes
pub number_residue : (kind : IntType) (z : ℤ) (f : ℕ → ℕ) → ((i : ℕ) → i < size_of kind → byte_at i z ≡ f i) → residue (modulus_of kind) z ≡ number_in f (size_of kind) 0
number_residue kind z f bytes = residue_bytes kind z ∙ number_same (λ i. byte_at i z) f (size_of kind) 0 (λ p lo hi. bytes p (omega (arith, hi)))

pub wrapped_number : (to : IntType) (z : ℤ) (f : ℕ → ℕ) → is_signed_of to ≡ false → ((i : ℕ) → i < size_of to → byte_at i z ≡ f i) → wrap_of to z ≡ pos (number_in f (size_of to) 0)
wrapped_number to z f e bytes = unsigned_wrap to z e ∙ ap pos (number_residue to z f bytes)

-- to a longer type: a number without sign stays
signed_small : (half m n : ℕ) → n < half → (if nat_le half n then negsuc (m - 1 - n) else pos n) ≡ pos n
signed_small half m n lt = go (nat_le half n) refl
  where
    go : (b : Bool) → nat_le half n ≡ b → (if b then negsuc (m - 1 - n) else pos n) ≡ pos n
    go true e = let le : half ≤ n = grind (arith, nat_tests) in absurd (omega (arith, le, lt))
    go false e = refl

small_wraps : (to : IntType) (n : ℕ) → n < modulus_of to / 2 → wrap_of to (pos n) ≡ pos n
small_wraps I.SChar n h = let same : n % 256 ≡ n = omega (arith, h) in ap (placed true 256) same ∙ signed_small 128 256 n h
small_wraps I.UChar n h = ap pos (omega (arith, h))
small_wraps I.Short n h = let same : n % 65536 ≡ n = omega (arith, h) in ap (placed true 65536) same ∙ signed_small 32768 65536 n h
small_wraps I.UShort n h = ap pos (omega (arith, h))
small_wraps I.Int n h = let same : n % 65536 ≡ n = omega (arith, h) in ap (placed true 65536) same ∙ signed_small 32768 65536 n h
small_wraps I.UInt n h = ap pos (omega (arith, h))
small_wraps I.Long n h = let same : n % 4294967296 ≡ n = omega (arith, h) in ap (placed true 4294967296) same ∙ signed_small 2147483648 4294967296 n h
small_wraps I.ULong n h = ap pos (omega (arith, h))

from_byte : (to : IntType) → 1 < size_of to → 256 ≤ modulus_of to / 2
from_byte I.SChar h = absurd (omega (arith, h))
from_byte I.UChar h = absurd (omega (arith, h))
from_byte I.Short h = omega arith
from_byte I.UShort h = omega arith
from_byte I.Int h = omega arith
from_byte I.UInt h = omega arith
from_byte I.Long h = omega arith
from_byte I.ULong h = omega arith

from_word : (to : IntType) → 2 < size_of to → 65536 ≤ modulus_of to / 2
from_word I.SChar h = absurd (omega (arith, h))
from_word I.UChar h = absurd (omega (arith, h))
from_word I.Short h = absurd (omega (arith, h))
from_word I.UShort h = absurd (omega (arith, h))
from_word I.Int h = absurd (omega (arith, h))
from_word I.UInt h = absurd (omega (arith, h))
from_word I.Long h = omega arith
from_word I.ULong h = omega arith

longest : (to : IntType) → 4 < size_of to → ⊥
longest I.SChar h = omega (arith, h)
longest I.UChar h = omega (arith, h)
longest I.Short h = omega (arith, h)
longest I.UShort h = omega (arith, h)
longest I.Int h = omega (arith, h)
longest I.UInt h = omega (arith, h)
longest I.Long h = omega (arith, h)
longest I.ULong h = omega (arith, h)

much_below : (kind to : IntType) → size_of kind < size_of to → modulus_of kind ≤ modulus_of to / 2
much_below I.SChar to h = from_byte to h
much_below I.UChar to h = from_byte to h
much_below I.Short to h = from_word to h
much_below I.UShort to h = from_word to h
much_below I.Int to h = from_word to h
much_below I.UInt to h = from_word to h
much_below I.Long to h = absurd (longest to h)
much_below I.ULong to h = absurd (longest to h)

pub unsigned_stays : (kind to : IntType) (n : ℕ) → size_of kind < size_of to → n < modulus_of kind → wrap_of to (pos n) ≡ pos n
unsigned_stays kind to n longer lt = small_wraps to n (omega (arith, lt, much_below kind to longer))

-- ---- a number that is read

pub read_byte : (kind : IntType) (f : ℕ → ℕ) (z : ℤ) (i : ℕ) → ((p : ℕ) → f p < 256) → narrowed kind (number_in f (size_of kind) 0) ≡ word_of kind z → i < size_of kind → byte_at i z ≡ f i
read_byte kind f z i bytes e lt =
    let n : ℕ = number_in f (size_of kind) 0 in
    sym (word_byte kind z i lt) ∙ ap (byte_of i) (sym e) ∙ narrowed_byte kind n i lt ∙ byte_first f (size_of kind) i bytes lt

pub read_number : (kind : IntType) (f : ℕ → ℕ) (z : ℤ) → ((p : ℕ) → f p < 256) → InRange kind z → narrowed kind (number_in f (size_of kind) 0) ≡ word_of kind z → is_signed_of kind ≡ false → z ≡ pos (number_in f (size_of kind) 0)
read_number kind f z bytes range e unsigned = go kind z (number_in f (size_of kind) 0) (number_below kind f bytes) (within kind z range) e unsigned
  where
    go : (kind : IntType) (z : ℤ) (n : ℕ) → n < modulus_of kind → Within (is_signed_of kind) (width_of kind) z → narrowed kind n ≡ word_of kind z → is_signed_of kind ≡ false → z ≡ pos n
    go I.SChar z n lt r e u = cc
    go I.UChar (pos m) n lt r e u = ap pos (omega (arith, r, e, lt))
    go I.UChar (negsuc m) n lt r e u = absurd r
    go I.Short z n lt r e u = cc
    go I.UShort (pos m) n lt r e u = ap pos (omega (arith, r, e, lt))
    go I.UShort (negsuc m) n lt r e u = absurd r
    go I.Int z n lt r e u = cc
    go I.UInt (pos m) n lt r e u = ap pos (omega (arith, r, e, lt))
    go I.UInt (negsuc m) n lt r e u = absurd r
    go I.Long z n lt r e u = cc
    go I.ULong (pos m) n lt r e u = ap pos (omega (arith, r, e, lt))
    go I.ULong (negsuc m) n lt r e u = absurd r

-- ---- constants

pub constant_byte : (width : Width) (z : ℤ) (i : ℕ) → i < register_bytes width → number_byte (residue_of z) i ≡ byte_of i (residue (words_of width) z)
constant_byte Ax (pos n) zero h = omega arith
constant_byte Ax (pos n) (suc zero) h = omega arith
constant_byte Ax (negsuc n) zero h = omega arith
constant_byte Ax (negsuc n) (suc zero) h = omega arith
constant_byte Ax z (suc (suc i)) h = absurd (omega (arith, h))
constant_byte Eax (pos n) zero h = omega arith
constant_byte Eax (pos n) (suc zero) h = omega arith
constant_byte Eax (pos n) (suc (suc zero)) h = omega arith
constant_byte Eax (pos n) (suc (suc (suc zero))) h = omega arith
constant_byte Eax (negsuc n) zero h = omega arith
constant_byte Eax (negsuc n) (suc zero) h = omega arith
constant_byte Eax (negsuc n) (suc (suc zero)) h = omega arith
constant_byte Eax (negsuc n) (suc (suc (suc zero))) h = omega arith
constant_byte Eax z (suc (suc (suc (suc i)))) h = absurd (omega (arith, h))

pub byte_below : (n i : ℕ) → number_byte n i < 256
byte_below n i = go (i == 0) (i == 1) (i == 2)
  where
    go : (x y z : Bool) → (if x then n % 256 else (if y then n / 256 % 256 else (if z then n / 65536 % 256 else n / 16777216 % 256))) < 256
    go true y z = omega arith
    go false true z = omega arith
    go false false true = omega arith
    go false false false = omega arith

pub none_byte : (i : ℕ) → number_byte 0 i ≡ 0
none_byte i = go (i == 0) (i == 1) (i == 2)
  where
    go : (x y z : Bool) → (if x then 0 % 256 else (if y then 0 / 256 % 256 else (if z then 0 / 65536 % 256 else 0 / 16777216 % 256))) ≡ 0
    go true y z = refl
    go false true z = refl
    go false false true = refl
    go false false false = refl
