-- What is stored into a bit-field is read back.
use Rattle.std.proofs.Common.{◌≡◌, ℕ, zero, suc, ◌+◌, ◌-◌, ◌*◌, ◌/◌, ◌%◌, ◌^◌, ◌<◌, ◌≤◌, refl, sym, ap, subst, ◌∙◌, arith, pos, negsuc, ℤ, true}
use Rattle.std.specs.Prelude.{Ok, ◌==◌, bit_and, bit_or}
use Rattle.std.specs.Int.Bits.{and_self, and_zero_r}
use Rattle.std.proofs.lemmas.Nat.{and_block, and_mask, and_mod, and_shr, and_assoc, and-not, and_or_self, and_or_apart, or_comm, pow_pos, pow-add}
use Rattle.std.proofs.Math.Nat.{suc-mul}
use Rattle.std.proofs.Math.Nat.{mod-eq_of_lt, mod-lt, mul-div_cancel}
use Rattle.std.proofs.Math.Pow.{pow_mono}
use Rattle.c65_ints.specs.declared.types.IntType.{IntType}
use Rattle.c65_ints.specs.Ranges.{residue, is_signed_of, placed}
use Rattle.c65_meaning.specs.Store.{Cell, Bits, Piece, Clouded, Whole, Opaque, Field, Gathered, Hidden, Found, below, gather_part, mask_of, with_bits, cloud_over, field_cell, set_cells, read_cells}
use Rattle.c65_meaning.proofs.CellLaws.{set_at}

residue_below : (w : ℕ) (z : ℤ) → residue (2 ^ w) z < 2 ^ w
residue_below w (pos n) = mod-lt n (pow_pos w)
residue_below w (negsuc n) = let p : 0 < 2 ^ w = pow_pos w in let q : n % 2 ^ w < 2 ^ w = mod-lt n p in omega arith

-- bits within a field of w bits lie within its mask
within_field : (r w : ℕ) → r < 2 ^ w → bit_and r (2 ^ w - 1) ≡ r
within_field r w h = and_mask r w ∙ mod-eq_of_lt h

within_mask : (r w low : ℕ) → r < 2 ^ w → bit_and (r * 2 ^ low) (mask_of low w) ≡ r * 2 ^ low
within_mask r w low h = let block : bit_and (r * 2 ^ low + 0) ((2 ^ w - 1) * 2 ^ low + 0) ≡ bit_and r (2 ^ w - 1) * 2 ^ low + bit_and 0 0 = and_block low r (2 ^ w - 1) 0 0 (pow_pos low) (pow_pos low) in let field : bit_and r (2 ^ w - 1) ≡ r = within_field r w h in let plain : (n : ℕ) → n + 0 ≡ n = λ n. omega arith in subst (λ n. bit_and n ((2 ^ w - 1) * 2 ^ low) ≡ r * 2 ^ low) (plain (r * 2 ^ low)) (subst (λ n. bit_and (r * 2 ^ low + 0) n ≡ r * 2 ^ low) (plain ((2 ^ w - 1) * 2 ^ low)) (block ∙ (plain (bit_and r (2 ^ w - 1) * 2 ^ low) ∙ ap (λ n. n * 2 ^ low) field)))

low_within : (b m : ℕ) → bit_and b m ≡ b → bit_and (b % 256) (m % 256) ≡ b % 256
low_within b m h = sym (and_mod b m 8) ∙ ap (λ n. n % 256) h

high_within : (b m : ℕ) → bit_and b m ≡ b → bit_and (b / 256) (m / 256) ≡ b / 256
high_within b m h = sym (and_shr b m 8) ∙ ap (λ n. n / 256) h

mask_below : (w low : ℕ) → low + w ≤ 16 → mask_of low w ≤ 65535
mask_below w low h = let product : 2 ^ (w + low) ≡ 2 ^ w * 2 ^ low = pow-add 2 w low in let sum : w + low ≤ 16 = omega arith in let least : 2 ^ (w + low) ≤ 2 ^ 16 = pow_mono sum in let one : 0 < 2 ^ low = pow_pos low in let two : 0 < 2 ^ w = pow_pos w in smaller (2 ^ w) (2 ^ low) product least one two
  where
    smaller : (a b : ℕ) → 2 ^ (w + low) ≡ a * b → 2 ^ (w + low) ≤ 65536 → 0 < b → 0 < a → (a - 1) * b ≤ 65535
    smaller zero b e l p q = absurd (omega arith)
    smaller (suc a) b e l p q = let f : suc a * b ≡ a * b + b = suc-mul a b in let g : suc a - 1 ≡ a = omega arith in rw g (omega arith)

-- ---- one cell

kept_bits : (m b v : ℕ) → m ≤ 255 → bit_and b m ≡ b → bit_and (bit_or (bit_and v (255 - m)) b) m ≡ b
kept_bits m b v h e = let apart : bit_and (255 - m) m ≡ 0 = disjoint in let none : bit_and (bit_and v (255 - m)) m ≡ 0 = and_assoc m v (255 - m) ∙ (ap (bit_and v) apart ∙ and_zero_r v) in ap (λ n. bit_and n m) (or_comm (bit_and v (255 - m)) b) ∙ (and_or_apart m b (bit_and v (255 - m)) none ∙ e)
  where
    disjoint : bit_and (255 - m) m ≡ 0
    disjoint = let all : bit_and (2 ^ 8 - 1 - m) m + bit_and m m ≡ m = and-not 8 m m (omega arith) (omega arith) in let own : bit_and m m ≡ m = and_self m in omega arith

equal : (m n : ℕ) → m ≡ n → (m == n) ≡ true
equal m n h = grind arith

-- bits of a mask that are all set
set_read : (m k v b : ℕ) (g : Gathered) → bit_and k (suc m) ≡ suc m → bit_and v (suc m) ≡ b → gather_part (suc m) (Bits k v) g ≡ below b g
set_read m k v b g p q = let t : (bit_and k (suc m) == suc m) ≡ true = equal (bit_and k (suc m)) (suc m) p in rw t (ap (λ n. below n g) q)

kept_others : (m b v : ℕ) → suc m ≤ 255 → bit_and b (suc m) ≡ b → bit_and (bit_or (bit_and v (254 - m)) b) (suc m) ≡ b
kept_others m b v h e = let same : 255 - suc m ≡ 254 - m = omega arith in subst (λ n. bit_and (bit_or (bit_and v n) b) (suc m) ≡ b) same (kept_bits (suc m) b v h e)

-- what stands in the bits of a mask after they were set
part_read : (m b : ℕ) (x : Cell) (g : Gathered) → m ≤ 255 → bit_and b m ≡ b → gather_part m (with_bits m b x) g ≡ below b g
part_read zero b x g h e = ap (λ n. below n g) (sym (and_zero_r b) ∙ e)
part_read (suc m) b (Bits known value) g h e = set_read m (bit_or known (suc m)) (bit_or (bit_and value (254 - m)) b) b g (and_or_self (suc m) known) (kept_others m b value h e)
part_read (suc m) b (Piece i c o) g h e = set_read m (suc m) b b g (and_self (suc m)) e
part_read (suc m) b Clouded g h e = set_read m (suc m) b b g (and_self (suc m)) e

-- ---- the unit of two bytes

-- a number in a bit-field of `width` bits from `low` on, as it is read
module _ (low width r : ℕ) (x y : Cell) (fits : low + width ≤ 16) (small : r < 2 ^ width) where
  unit_read : gather_part (mask_of low width % 256) (with_bits (mask_of low width % 256) (r * 2 ^ low % 256) x) (gather_part (mask_of low width / 256) (with_bits (mask_of low width / 256) (r * 2 ^ low / 256) y) (Found 0)) ≡ Found (r * 2 ^ low % 256 + 256 * (r * 2 ^ low / 256 + 256 * 0))
  unit_read = let all : bit_and (r * 2 ^ low) (mask_of low width) ≡ r * 2 ^ low = within_mask r width low small in let most : mask_of low width ≤ 65535 = mask_below width low fits in let high : gather_part (mask_of low width / 256) (with_bits (mask_of low width / 256) (r * 2 ^ low / 256) y) (Found 0) ≡ Found (r * 2 ^ low / 256 + 256 * 0) = part_read (mask_of low width / 256) (r * 2 ^ low / 256) y (Found 0) (omega arith) (high_within (r * 2 ^ low) (mask_of low width) all) in part_read (mask_of low width % 256) (r * 2 ^ low % 256) x _ (omega arith) (low_within (r * 2 ^ low) (mask_of low width) all) ∙ ap (below (r * 2 ^ low % 256)) high

  moved_back : (r * 2 ^ low % 256 + 256 * (r * 2 ^ low / 256 + 256 * 0)) / 2 ^ low ≡ r
  moved_back = let whole : r * 2 ^ low % 256 + 256 * (r * 2 ^ low / 256 + 256 * 0) ≡ r * 2 ^ low = joined (r * 2 ^ low) in ap (λ n. n / 2 ^ low) whole ∙ mul-div_cancel r (pow_pos low)
    where
      joined : (n : ℕ) → n % 256 + 256 * (n / 256 + 256 * 0) ≡ n
      joined n = omega arith

pub field_read : (t : IntType) (low width : ℕ) (z : ℤ) (cells : ℕ → Cell) (o : ℕ) → low + width ≤ 16 → read_cells (Field t low width) (set_cells cells o 2 (field_cell (mask_of low width) low width (Whole z) (cells o) (cells (suc o)))) o ≡ Ok (Whole (placed (is_signed_of t) (2 ^ width) (residue (2 ^ width) z)))
field_read t low width z cells o fits = rw (set_at cells new o 2 o 0 (omega arith) (omega arith), set_at cells new o 2 (suc o) 1 (omega arith) (omega arith), unit_read low width (residue (2 ^ width) z) (cells o) (cells (suc o)) fits (residue_below width z)) (ap (λ n. Ok (Whole (placed (is_signed_of t) (2 ^ width) n))) (moved_back low width (residue (2 ^ width) z) (cells o) (cells (suc o)) fits (residue_below width z)))
  where
    new : ℕ → Cell
    new = field_cell (mask_of low width) low width (Whole z) (cells o) (cells (suc o))

-- ---- clouded bits

positive : (a b : ℕ) → 1 ≤ a → 1 ≤ b → 1 ≤ a * b
positive zero b h g = absurd (omega arith)
positive (suc a) b h g = let f : suc a * b ≡ a * b + b = suc-mul a b in omega arith

some_bits : (low width : ℕ) → 1 ≤ width → 1 ≤ mask_of low width % 256 + mask_of low width / 256
some_bits low width h = let two : 2 ^ 1 ≤ 2 ^ width = pow_mono h in let one : 0 < 2 ^ low = pow_pos low in let p : 1 ≤ mask_of low width = positive (2 ^ width - 1) (2 ^ low) (omega arith) (omega arith) in parts (mask_of low width) p
  where
    parts : (m : ℕ) → 1 ≤ m → 1 ≤ m % 256 + m / 256
    parts m p = omega arith

clouded_unit : (a b : ℕ) (x y : Cell) → 1 ≤ a + b → gather_part a (cloud_over a x) (gather_part b (cloud_over b y) (Found 0)) ≡ Hidden
clouded_unit zero zero x y h = absurd (omega arith)
clouded_unit zero (suc b) x y h = refl
clouded_unit (suc a) zero x y h = refl
clouded_unit (suc a) (suc b) x y h = refl

pub clouded_field_read : (t : IntType) (low width : ℕ) (cells : ℕ → Cell) (o : ℕ) → 1 ≤ width → read_cells (Field t low width) (set_cells cells o 2 (field_cell (mask_of low width) low width Opaque (cells o) (cells (suc o)))) o ≡ Ok Opaque
clouded_field_read t low width cells o h = rw (set_at cells new o 2 o 0 (omega arith) (omega arith), set_at cells new o 2 (suc o) 1 (omega arith) (omega arith), clouded_unit (mask_of low width % 256) (mask_of low width / 256) (cells o) (cells (suc o)) (some_bits low width h)) refl
  where
    new : ℕ → Cell
    new = field_cell (mask_of low width) low width Opaque (cells o) (cells (suc o))
