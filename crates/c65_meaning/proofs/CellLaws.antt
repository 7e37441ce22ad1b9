-- Cells after a store, and what they come to: numbers, places and null.
use Rattle.std.proofs.Common.{◌≡◌, ℕ, suc, ◌+◌, ◌-◌, ◌*◌, ◌/◌, ◌%◌, ◌<◌, ◌≤◌, refl, sym, ap, arith, pos, negsuc, ℤ, true, false}
use Rattle.std.specs.Prelude.{Ok, nat_lt}
use Rattle.c65_ints.specs.Ranges.{residue, wrap_of, placed}
use Rattle.c65_ints.specs.declared.types.IntType.{IntType}
use Rattle.c65_ints.specs.declared.types.IntType.TheVariants.{SChar, UChar, Short, UShort, Int, UInt, Long, ULong}
use Rattle.c65_ctype.specs.Sizes.{bytes_of}
use Rattle.c65_meaning.specs.Integers.{byte_at}
use Rattle.c65_meaning.specs.Store.{Cell, Whole, Null, Place, Opaque, Number, Pointer, set_cells, read_cells, cell_of, are_of_one}

pub set_before : (cells new : ℕ → Cell) (o n p : ℕ) → p < o → set_cells cells o n new p ≡ cells p
set_before cells new o n p h = let a : nat_lt p o ≡ true = grind arith in rw a refl

pub set_behind : (cells new : ℕ → Cell) (o n p : ℕ) → o + n ≤ p → set_cells cells o n new p ≡ cells p
set_behind cells new o n p h = let a : nat_lt p o ≡ false = grind arith in let l : nat_lt (p - o) n ≡ false = grind arith in rw (a, l) refl

pub set_at : (cells new : ℕ → Cell) (o n p i : ℕ) → p ≡ o + i → i < n → set_cells cells o n new p ≡ new i
set_at cells new o n p i e h = let a : nat_lt p o ≡ false = grind arith in let f : p - o ≡ i = omega arith in let l : nat_lt i n ≡ true = grind arith in rw (a, f, l) refl

-- two bytes
low_high : (n : ℕ) → n % 256 + 256 * (n / 256 % 256) ≡ n % 65536
low_high n = grind arith

two_bytes : (z : ℤ) → byte_at 0 z + 256 * (byte_at 1 z + 256 * 0) ≡ residue 65536 z
two_bytes (pos n) = omega (arith, low_high n)
two_bytes (negsuc n) = omega (arith, low_high n)

one_byte : (z : ℤ) → byte_at 0 z + 256 * 0 ≡ residue 256 z
one_byte z = omega arith

-- four bytes
high_part : (n : ℕ) → n / 256 / 256 ≡ n / 65536
high_part n = grind arith

word_pair : (n : ℕ) → n % 65536 + 65536 * (n / 65536 % 65536) ≡ n % 4294967296
word_pair n = grind arith

higher : (n : ℕ) → n / 65536 / 256 ≡ n / 256 / 256 / 256
higher n = ap (λ k. k / 256) (sym (high_part n))

four_bytes : (z : ℤ) → byte_at 0 z + 256 * (byte_at 1 z + 256 * (byte_at 2 z + 256 * (byte_at 3 z + 256 * 0))) ≡ residue 4294967296 z
four_bytes (pos n) = omega (arith, low_high n, low_high (n / 65536), word_pair n, high_part n, higher n)
four_bytes (negsuc n) = omega (arith, low_high n, low_high (n / 65536), word_pair n, high_part n, higher n)

-- a number that is stored is read back as the value of the type
pub number_read : (t : IntType) (z : ℤ) (cells : ℕ → Cell) (o : ℕ) → read_cells (Number t) (set_cells cells o (bytes_of t) (cell_of (Whole z))) o ≡ Ok (Whole (wrap_of t z))
number_read SChar z cells o = rw (set_at cells (cell_of (Whole z)) o 1 o 0 (omega arith) (omega arith)) (ap (λ n. Ok (Whole (placed true 256 n))) (one_byte z))
number_read UChar z cells o = rw (set_at cells (cell_of (Whole z)) o 1 o 0 (omega arith) (omega arith)) (ap (λ n. Ok (Whole (placed false 256 n))) (one_byte z))
number_read Short z cells o = rw (set_at cells (cell_of (Whole z)) o 2 o 0 (omega arith) (omega arith), set_at cells (cell_of (Whole z)) o 2 (suc o) 1 (omega arith) (omega arith)) (ap (λ n. Ok (Whole (placed true 65536 n))) (two_bytes z))
number_read Int z cells o = rw (set_at cells (cell_of (Whole z)) o 2 o 0 (omega arith) (omega arith), set_at cells (cell_of (Whole z)) o 2 (suc o) 1 (omega arith) (omega arith)) (ap (λ n. Ok (Whole (placed true 65536 n))) (two_bytes z))
number_read UShort z cells o = rw (set_at cells (cell_of (Whole z)) o 2 o 0 (omega arith) (omega arith), set_at cells (cell_of (Whole z)) o 2 (suc o) 1 (omega arith) (omega arith)) (ap (λ n. Ok (Whole (placed false 65536 n))) (two_bytes z))
number_read UInt z cells o = rw (set_at cells (cell_of (Whole z)) o 2 o 0 (omega arith) (omega arith), set_at cells (cell_of (Whole z)) o 2 (suc o) 1 (omega arith) (omega arith)) (ap (λ n. Ok (Whole (placed false 65536 n))) (two_bytes z))
number_read Long z cells o = rw (set_at cells (cell_of (Whole z)) o 4 o 0 (omega arith) (omega arith), set_at cells (cell_of (Whole z)) o 4 (suc o) 1 (omega arith) (omega arith), set_at cells (cell_of (Whole z)) o 4 (suc (suc o)) 2 (omega arith) (omega arith), set_at cells (cell_of (Whole z)) o 4 (suc (suc (suc o))) 3 (omega arith) (omega arith)) (ap (λ n. Ok (Whole (placed true 4294967296 n))) (four_bytes z))
number_read ULong z cells o = rw (set_at cells (cell_of (Whole z)) o 4 o 0 (omega arith) (omega arith), set_at cells (cell_of (Whole z)) o 4 (suc o) 1 (omega arith) (omega arith), set_at cells (cell_of (Whole z)) o 4 (suc (suc o)) 2 (omega arith) (omega arith), set_at cells (cell_of (Whole z)) o 4 (suc (suc (suc o))) 3 (omega arith) (omega arith)) (ap (λ n. Ok (Whole (placed false 4294967296 n))) (four_bytes z))

-- of clouded cells the number may not be used
pub opaque_read : (t : IntType) (cells : ℕ → Cell) (o : ℕ) → read_cells (Number t) (set_cells cells o (bytes_of t) (cell_of Opaque)) o ≡ Ok Opaque
opaque_read SChar cells o = rw (set_at cells (cell_of Opaque) o 1 o 0 (omega arith) (omega arith)) refl
opaque_read UChar cells o = rw (set_at cells (cell_of Opaque) o 1 o 0 (omega arith) (omega arith)) refl
opaque_read Short cells o = rw (set_at cells (cell_of Opaque) o 2 o 0 (omega arith) (omega arith), set_at cells (cell_of Opaque) o 2 (suc o) 1 (omega arith) (omega arith)) refl
opaque_read UShort cells o = rw (set_at cells (cell_of Opaque) o 2 o 0 (omega arith) (omega arith), set_at cells (cell_of Opaque) o 2 (suc o) 1 (omega arith) (omega arith)) refl
opaque_read Int cells o = rw (set_at cells (cell_of Opaque) o 2 o 0 (omega arith) (omega arith), set_at cells (cell_of Opaque) o 2 (suc o) 1 (omega arith) (omega arith)) refl
opaque_read UInt cells o = rw (set_at cells (cell_of Opaque) o 2 o 0 (omega arith) (omega arith), set_at cells (cell_of Opaque) o 2 (suc o) 1 (omega arith) (omega arith)) refl
opaque_read Long cells o = rw (set_at cells (cell_of Opaque) o 4 o 0 (omega arith) (omega arith), set_at cells (cell_of Opaque) o 4 (suc o) 1 (omega arith) (omega arith), set_at cells (cell_of Opaque) o 4 (suc (suc o)) 2 (omega arith) (omega arith), set_at cells (cell_of Opaque) o 4 (suc (suc (suc o))) 3 (omega arith) (omega arith)) refl
opaque_read ULong cells o = rw (set_at cells (cell_of Opaque) o 4 o 0 (omega arith) (omega arith), set_at cells (cell_of Opaque) o 4 (suc o) 1 (omega arith) (omega arith), set_at cells (cell_of Opaque) o 4 (suc (suc o)) 2 (omega arith) (omega arith), set_at cells (cell_of Opaque) o 4 (suc (suc (suc o))) 3 (omega arith) (omega arith)) refl

same_place : (b o : ℕ) → are_of_one 0 b o 1 b o ≡ true
same_place b o = grind arith

-- a place that is stored is read back
pub place_read : (size b o p : ℕ) (cells : ℕ → Cell) → read_cells (Pointer size) (set_cells cells p 2 (cell_of (Place b o))) p ≡ Ok (Place b o)
place_read size b o p cells = rw (set_at cells (cell_of (Place b o)) p 2 p 0 (omega arith) (omega arith), set_at cells (cell_of (Place b o)) p 2 (suc p) 1 (omega arith) (omega arith), same_place b o) refl

pub null_read : (size p : ℕ) (cells : ℕ → Cell) → read_cells (Pointer size) (set_cells cells p 2 (cell_of Null)) p ≡ Ok Null
null_read size p cells = rw (set_at cells (cell_of Null) p 2 p 0 (omega arith) (omega arith), set_at cells (cell_of Null) p 2 (suc p) 1 (omega arith) (omega arith)) refl

pub clouded_read : (size p : ℕ) (cells : ℕ → Cell) → read_cells (Pointer size) (set_cells cells p 2 (cell_of Opaque)) p ≡ Ok Opaque
clouded_read size p cells = rw (set_at cells (cell_of Opaque) p 2 p 0 (omega arith) (omega arith), set_at cells (cell_of Opaque) p 2 (suc p) 1 (omega arith) (omega arith)) refl
