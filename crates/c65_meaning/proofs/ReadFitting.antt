-- What is read from bytes fits.
use Rattle.std.proofs.Common.{◌≡◌, ℕ, zero, suc, ◌+◌, ◌-◌, ◌*◌, ◌/◌, ◌%◌, ◌^◌, ◌<◌, ◌≤◌, refl, subst, sym, Bool, true, false, arith}
use Rattle.std.specs.Prelude.{◌==◌, if◌then◌else◌, bit_and}
use Rattle.std.proofs.lemmas.Nat.{and_le_r, pow_pos}
use Rattle.std.proofs.Math.Nat.{div-le_of_le-mul, mul_comm, pow-suc}
use Rattle.std.proofs.Math.Pow.{pow_mono}
use Rattle.c65_ints.specs.declared.types.IntType.{IntType}
use Rattle.c65_ints.specs.declared.types.IntType.TheVariants.{SChar, UChar, Short, UShort, Int, UInt, Long, ULong}
use Rattle.c65_ints.specs.Ranges.{is_signed_of, width_of, placed}
use Rattle.c65_meaning.specs.Store.{Cell, Bits, Piece, Clouded, Value, Whole, Null, Place, Opaque, Shape, Number, Field, Pointer, Area, Gathered, Lacking, Hidden, Found, hide, below, gather, gathered, gather_part, gathered_field, moved_down, mask_of, as_number, as_pointer, are_of_one, read_pair, read_cells}
use Rattle.c65_meaning.specs.Fits.{Fits, IsByte, ReadsFit}
use Rattle.c65_meaning.proofs.Ranges.{placed_in}
use Rattle.c65_meaning.proofs.Fitting.{given, fits_as}

abbrev sum : ℕ → Gathered
sum n = Found n

-- a number in cells is its low byte and what lies above it
record Low (v m : ℕ) (g : Gathered) : Type 0 where
  high : ℕ
  above : g ≡ sum high
  is : m ≡ v + 256 * high

below_found : (v m : ℕ) (g : Gathered) → below v g ≡ sum m → Low v m g
below_found v m Lacking e = absurd (cc)
below_found v m Hidden e = absurd (cc)
below_found v m (Found n) e = let same : v + 256 * n ≡ m = cc in record { high = n; above = refl; is = sym same }

hide_none : (m : ℕ) (g : Gathered) → hide g ≡ sum m → ⊥
hide_none m Lacking e = cc
hide_none m Hidden e = cc
hide_none m (Found n) e = cc

-- ---- whole bytes

record Byte (limit m : ℕ) (g : Gathered) : Type 0 where
  low : ℕ
  small : low ≤ limit
  rest : Low low m g

gather_found : (x : Cell) (m : ℕ) (g : Gathered) → IsByte x → gather x g ≡ sum m → Byte 255 m g
gather_found (Bits known value) m g h e = tested (known == 255) e
  where
    tested : (b : Bool) → (if b then below value g else Lacking) ≡ sum m → Byte 255 m g
    tested true f = record { low = value; small = h; rest = below_found value m g f }
    tested false f = absurd (cc)
gather_found (Piece i b o) m g h e = absurd (hide_none m g e)
gather_found Clouded m g h e = absurd (hide_none m g e)

one_byte_more : (n m : ℕ) (g : Gathered) → ((h : ℕ) → g ≡ sum h → h < 256 ^ n) → Byte 255 m g → m < 256 ^ suc n
one_byte_more n m g below x = let rest : x.rest.high < 256 ^ n = below x.rest.high x.rest.above in let power : 256 ^ suc n ≡ 256 ^ n * 256 = pow-suc 256 n in let is : m ≡ x.low + 256 * x.rest.high = x.rest.is in let small : x.low ≤ 255 = x.small in omega arith

gathered_below : (n : ℕ) (cells : ℕ → Cell) (o m : ℕ) → ((p : ℕ) → IsByte (cells p)) → gathered n cells o ≡ sum m → m < 256 ^ n
gathered_below zero cells o m h e = let same : 0 ≡ m = cc in subst (λ k. k < 1) same (omega arith)
gathered_below (suc n) cells o m h e = one_byte_more n m (gathered n cells (suc o)) (λ k. gathered_below n cells (suc o) k h) (gather_found (cells o) m (gathered n cells (suc o)) (h o) e)

-- a number that was gathered below 2 to its width
found_fits : (t : IntType) (width : ℕ) (f : Shape) (g : Gathered) (v : Value) → width ≤ width_of t → ((m : ℕ) → g ≡ sum m → m < 2 ^ width) → (Fits f Opaque) → ((z : _) → Fits (Number t) (Whole z) → Fits f (Whole z)) → as_number (is_signed_of t) width g ≡ given v → Fits f v
found_fits t width f Lacking v w h o n e = absurd (cc)
found_fits t width f Hidden v w h o n e = fits_as f Opaque v e o
found_fits t width f (Found m) v w h o n e = fits_as f (Whole (placed (is_signed_of t) (2 ^ width) m)) v e (n (placed (is_signed_of t) (2 ^ width) m) (placed_in t (2 ^ width) m (h m refl) (pow_mono w)))

same_range : (t : IntType) (z : _) → Fits (Number t) (Whole z) → Fits (Number t) (Whole z)
same_range t z h = h

number_reads : (t : IntType) (cells : ℕ → Cell) (o : ℕ) (v : Value) → ((p : ℕ) → IsByte (cells p)) → read_cells (Number t) cells o ≡ given v → Fits (Number t) v
number_reads SChar cells o v h e = found_fits SChar 8 (Number SChar) (gathered 1 cells o) v (omega arith) (λ m. gathered_below 1 cells o m h) tt (same_range SChar) e
number_reads UChar cells o v h e = found_fits UChar 8 (Number UChar) (gathered 1 cells o) v (omega arith) (λ m. gathered_below 1 cells o m h) tt (same_range UChar) e
number_reads Short cells o v h e = found_fits Short 16 (Number Short) (gathered 2 cells o) v (omega arith) (λ m. gathered_below 2 cells o m h) tt (same_range Short) e
number_reads UShort cells o v h e = found_fits UShort 16 (Number UShort) (gathered 2 cells o) v (omega arith) (λ m. gathered_below 2 cells o m h) tt (same_range UShort) e
number_reads Int cells o v h e = found_fits Int 16 (Number Int) (gathered 2 cells o) v (omega arith) (λ m. gathered_below 2 cells o m h) tt (same_range Int) e
number_reads UInt cells o v h e = found_fits UInt 16 (Number UInt) (gathered 2 cells o) v (omega arith) (λ m. gathered_below 2 cells o m h) tt (same_range UInt) e
number_reads Long cells o v h e = found_fits Long 32 (Number Long) (gathered 4 cells o) v (omega arith) (λ m. gathered_below 4 cells o m h) tt (same_range Long) e
number_reads ULong cells o v h e = found_fits ULong 32 (Number ULong) (gathered 4 cells o) v (omega arith) (λ m. gathered_below 4 cells o m h) tt (same_range ULong) e

-- ---- bit-fields

part_found : (mask : ℕ) (x : Cell) (m : ℕ) (g : Gathered) → gather_part mask x g ≡ sum m → Byte mask m g
part_found zero x m g e = record { low = 0; small = omega arith; rest = below_found 0 m g e }
part_found (suc k) (Bits known value) m g e = tested (bit_and known (suc k) == suc k) e
  where
    tested : (b : Bool) → (if b then below (bit_and value (suc k)) g else Lacking) ≡ sum m → Byte (suc k) m g
    tested true f = record { low = bit_and value (suc k); small = and_le_r value (suc k); rest = below_found (bit_and value (suc k)) m g f }
    tested false f = absurd (cc)
part_found (suc k) (Piece i b o) m g e = absurd (hide_none m g e)
part_found (suc k) Clouded m g e = absurd (hide_none m g e)

unit_below : (mask : ℕ) (cells : ℕ → Cell) (o m : ℕ) → gathered_field mask cells o ≡ sum m → m ≤ mask
unit_below mask cells o m e = first (part_found (mask % 256) (cells o) m (gather_part (mask / 256) (cells (suc o)) (Found 0)) e)
  where
    second : (x : Byte (mask % 256) m (gather_part (mask / 256) (cells (suc o)) (Found 0))) → Byte (mask / 256) x.rest.high (Found 0) → m ≤ mask
    second x y = let none : 0 ≡ y.rest.high = zero_is y.rest.high y.rest.above in let upper : x.rest.high ≡ y.low + 256 * y.rest.high = y.rest.is in let lower : m ≡ x.low + 256 * x.rest.high = x.rest.is in let a : x.low ≤ mask % 256 = x.small in let b : y.low ≤ mask / 256 = y.small in omega arith
      where
        zero_is : (n : ℕ) → Found 0 ≡ sum n → 0 ≡ n
        zero_is n f = cc

    first : Byte (mask % 256) m (gather_part (mask / 256) (cells (suc o)) (Found 0)) → m ≤ mask
    first x = second x (part_found (mask / 256) (cells (suc o)) x.rest.high (Found 0) x.rest.above)

moved_found : (low m : ℕ) (g : Gathered) → moved_down low g ≡ sum m → (n : ℕ) × (g ≡ sum n) × (m ≡ n / 2 ^ low)
moved_found low m Lacking e = absurd (cc)
moved_found low m Hidden e = absurd (cc)
moved_found low m (Found n) e = let same : n / 2 ^ low ≡ m = cc in (n, refl, sym same)

field_below : (low width : ℕ) (cells : ℕ → Cell) (o m : ℕ) → moved_down low (gathered_field (mask_of low width) cells o) ≡ sum m → m < 2 ^ width
field_below low width cells o m e = made (moved_found low m (gathered_field (mask_of low width) cells o) e)
  where
    made : ((n : ℕ) × (gathered_field (mask_of low width) cells o ≡ sum n) × (m ≡ n / 2 ^ low)) → m < 2 ^ width
    made (n, f, g) = let most : n ≤ mask_of low width = unit_below (mask_of low width) cells o n f in let turned : (2 ^ width - 1) * 2 ^ low ≡ 2 ^ low * (2 ^ width - 1) = mul_comm (2 ^ width - 1) (2 ^ low) in let product : n ≤ 2 ^ low * (2 ^ width - 1) = subst (λ k. n ≤ k) turned most in let lower : n / 2 ^ low ≤ 2 ^ width - 1 = div-le_of_le-mul (2 ^ low) product in let some : 0 < 2 ^ width = pow_pos width in omega arith

field_range : (t : IntType) (low width : ℕ) (z : _) → Fits (Number t) (Whole z) → Fits (Field t low width) (Whole z)
field_range t low width z h = h

-- ---- pointers

as_pointer_fits : (size : ℕ) (g : Gathered) (v : Value) → as_pointer g ≡ given v → Fits (Pointer size) v
as_pointer_fits size Lacking v e = absurd (cc)
as_pointer_fits size Hidden v e = fits_as (Pointer size) Opaque v e tt
as_pointer_fits size (Found zero) v e = fits_as (Pointer size) Null v e tt
as_pointer_fits size (Found (suc n)) v e = fits_as (Pointer size) Opaque v e tt

pair_fits : (size : ℕ) (x y : Cell) (v : Value) → read_pair x y ≡ given v → Fits (Pointer size) v
pair_fits size (Piece i b o) (Piece j c p) v e = tested (are_of_one i b o j c p) e
  where
    tested : (t : Bool) → (if t then given (Place b o) else given Opaque) ≡ given v → Fits (Pointer size) v
    tested true f = fits_as (Pointer size) (Place b o) v f tt
    tested false f = fits_as (Pointer size) Opaque v f tt
pair_fits size (Piece i b o) (Bits known value) v e = as_pointer_fits size (gather (Piece i b o) (gather (Bits known value) (Found 0))) v e
pair_fits size (Piece i b o) Clouded v e = as_pointer_fits size (gather (Piece i b o) (gather Clouded (Found 0))) v e
pair_fits size (Bits known value) y v e = as_pointer_fits size (gather (Bits known value) (gather y (Found 0))) v e
pair_fits size Clouded y v e = as_pointer_fits size (gather Clouded (gather y (Found 0))) v e

pub reads_fit : ReadsFit
reads_fit (Number t) cells o v w h e = number_reads t cells o v h e
reads_fit (Field t low width) cells o v w h e = found_fits t width (Field t low width) (moved_down low (gathered_field (mask_of low width) cells o)) v w (λ m. field_below low width cells o m) tt (field_range t low width) e
reads_fit (Pointer size) cells o v w h e = pair_fits size (cells o) (cells (suc o)) v e
reads_fit (Area size) cells o v w h e = absurd (cc)
