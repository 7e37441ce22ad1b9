-- The operators on the primary register alone.
use Rattle.std.proofs.Common.{◌≡◌, ◌≢◌, ℕ, ◌+◌, ◌*◌, ◌/◌, ◌%◌, ◌<◌, ◌≤◌, ◌⊎◌, inl, inr, Bool, true, false, nat_eq, sym, ap, ◌∙◌, arith}
use Rattle.std.specs.Prelude.{◌==◌, if◌then◌else◌, nat_lt, nat_le, bit_xor}
use Rattle.std.proofs.lemmas.Bool.Decides.{leb_tells, eqb_tells}
use Rattle.c65_mach.specs.Step.{bit}
use Rattle.c65_code.specs.declared.routine.Width.TheVariants.{Ax, Eax}
use Rattle.c65_code.specs.Numbers.{shifted_right, truth}
use Rattle.c65_rtl.proofs.Widenings.{below_is, not_below}

-- flags as numbers
pub bit_carry : (n : ℕ) → n < 512 → bit (nat_lt 255 n) ≡ n / 256
bit_carry n small = by (leb_tells 256 n)
  where
    by : ((nat_le 256 n ≡ true) × (256 ≤ n)) ⊎ ((nat_le 256 n ≡ false) × (n < 256)) → bit (nat_lt 255 n) ≡ n / 256
    by (inl holds) = let h = holds.1 in let e : 1 ≡ n / 256 = omega arith in ap bit holds.0 ∙ e
    by (inr fails) = let h = fails.1 in let e : 0 ≡ n / 256 = omega arith in ap bit fails.0 ∙ e

pub bit_sign : (n : ℕ) → n < 256 → bit (nat_lt 127 n) ≡ n / 128
bit_sign n small = by (leb_tells 128 n)
  where
    by : ((nat_le 128 n ≡ true) × (128 ≤ n)) ⊎ ((nat_le 128 n ≡ false) × (n < 128)) → bit (nat_lt 127 n) ≡ n / 128
    by (inl holds) = let h = holds.1 in let e : 1 ≡ n / 128 = omega arith in ap bit holds.0 ∙ e
    by (inr fails) = let h = fails.1 in let e : 0 ≡ n / 128 = omega arith in ap bit fails.0 ∙ e

pub bit_top : (n : ℕ) → n < 256 → bit (nat_lt 128 (n + 1)) ≡ n / 128
bit_top n small = by (leb_tells 129 (n + 1))
  where
    by : ((nat_le 129 (n + 1) ≡ true) × (129 ≤ n + 1)) ⊎ ((nat_le 129 (n + 1) ≡ false) × (n + 1 < 129)) → bit (nat_lt 128 (n + 1)) ≡ n / 128
    by (inl holds) = let h = holds.1 in let e : 1 ≡ n / 128 = omega arith in ap bit holds.0 ∙ e
    by (inr fails) = let h = fails.1 in let e : 0 ≡ n / 128 = omega arith in ap bit fails.0 ∙ e

pub bit_odd : (n : ℕ) → bit (nat_eq (n % 2) 1) ≡ n % 2
bit_odd n = by (eqb_tells (n % 2) 1)
  where
    by : ((nat_eq (n % 2) 1 ≡ true) × (n % 2 ≡ 1)) ⊎ ((nat_eq (n % 2) 1 ≡ false) × (n % 2 ≢ 1)) → bit (nat_eq (n % 2) 1) ≡ n % 2
    by (inl holds) = let h = holds.1 in let e : 1 ≡ n % 2 = omega arith in ap bit holds.0 ∙ e
    by (inr fails) = let h = fails.1 in let e : 0 ≡ n % 2 = omega arith in ap bit fails.0 ∙ e

-- the bytes of a word and of a number of 32 bits, from the number
pub record AreWordBytes (v low high : ℕ) : Type 0 where
  pub a : low ≡ v % 256
  pub x : high ≡ v / 256 % 256

pub word_bytes_of : (v a x : ℕ) → a < 256 → x < 256 → a + 256 * x ≡ v → AreWordBytes v a x
word_bytes_of v a x low high e = record { a = omega arith; x = omega arith }

pub record AreLongBytes (v low high upper_low upper_high : ℕ) : Type 0 where
  pub a : low ≡ v % 256
  pub x : high ≡ v / 256 % 256
  pub sreg : upper_low + 256 * upper_high ≡ v / 65536

pub long_bytes_of : (v a x l h : ℕ) → a < 256 → x < 256 → a + 256 * x + 65536 * (l + 256 * h) ≡ v → AreLongBytes v a x l h
long_bytes_of v a x l h low high e = record { a = omega arith; x = omega arith; sreg = omega arith }

-- a number shifted to the right by one with its sign
pub shifted_word : (v : ℕ) → v < 65536 → shifted_right Ax v 1 ≡ v / 2 + 32768 * (v / 32768)
shifted_word v small = by (leb_tells 32768 v)
  where
    by : ((nat_le 32768 v ≡ true) × (32768 ≤ v)) ⊎ ((nat_le 32768 v ≡ false) × (v < 32768)) → shifted_right Ax v 1 ≡ v / 2 + 32768 * (v / 32768)
    by (inl holds) = let h = holds.1 in let e : v / 2 + 32768 ≡ v / 2 + 32768 * (v / 32768) = omega arith in ap (λ (b : Bool). if b then v / 2 + 32768 else v / 2) holds.0 ∙ e
    by (inr fails) = let h = fails.1 in let e : v / 2 ≡ v / 2 + 32768 * (v / 32768) = omega arith in ap (λ (b : Bool). if b then v / 2 + 32768 else v / 2) fails.0 ∙ e

pub shifted_long : (v : ℕ) → v < 4294967296 → shifted_right Eax v 1 ≡ v / 2 + 2147483648 * (v / 2147483648)
shifted_long v small = by (leb_tells 2147483648 v)
  where
    by : ((nat_le 2147483648 v ≡ true) × (2147483648 ≤ v)) ⊎ ((nat_le 2147483648 v ≡ false) × (v < 2147483648)) → shifted_right Eax v 1 ≡ v / 2 + 2147483648 * (v / 2147483648)
    by (inl holds) = let h = holds.1 in let e : v / 2 + 2147483648 ≡ v / 2 + 2147483648 * (v / 2147483648) = omega arith in ap (λ (b : Bool). if b then v / 2 + 2147483648 else v / 2) holds.0 ∙ e
    by (inr fails) = let h = fails.1 in let e : v / 2 ≡ v / 2 + 2147483648 * (v / 2147483648) = omega arith in ap (λ (b : Bool). if b then v / 2 + 2147483648 else v / 2) fails.0 ∙ e

-- whether a number is zero, as the processor finds it from its bytes together
pub record IsZeroTest (w v : ℕ) : Type 0 where
  pub a : bit_xor (0 + bit (nat_lt 1 (w + 1))) 1 ≡ truth (v == 0) % 256
  pub x : 0 ≡ truth (v == 0) / 256 % 256

pub zero_test : (w v : ℕ) → (w ≡ 0 → v ≡ 0) → (v ≡ 0 → w ≡ 0) → IsZeroTest w v
zero_test w v to from = by (eqb_tells v 0)
  where
    by : ((nat_eq v 0 ≡ true) × (v ≡ 0)) ⊎ ((nat_eq v 0 ≡ false) × (v ≢ 0)) → IsZeroTest w v
    by (inl same) =
        let none : w ≡ 0 = from same.1 in
        let few : w + 1 ≤ 1 = omega arith in
        record {
          a = ap (λ (b : Bool). bit_xor (0 + bit b) 1) (not_below 1 (w + 1) few) ∙ sym (ap (λ (b : Bool). truth b % 256) same.0);
          x = sym (ap (λ (b : Bool). truth b / 256 % 256) same.0);
        }
    by (inr apart) =
        let some : w ≢ 0 = λ e. apart.1 (to e) in
        let more : 1 < w + 1 = omega arith in
        record {
          a = ap (λ (b : Bool). bit_xor (0 + bit b) 1) (below_is 1 (w + 1) more) ∙ sym (ap (λ (b : Bool). truth b % 256) apart.0);
          x = sym (ap (λ (b : Bool). truth b / 256 % 256) apart.0);
        }
