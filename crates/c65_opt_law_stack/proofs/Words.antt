-- Words of 16 bits, byte by byte.
use Rattle.std.proofs.Common.{◌≡◌, ℕ, ◌+◌, ◌-◌, ◌*◌, ◌/◌, ◌%◌, ◌<◌, ◌≤◌, ◌^◌, Bool, true, false, refl, sym, ap, ◌∙◌, arith}
use Rattle.std.specs.Prelude.{nat_lt, bit_and, bit_or, bit_xor}
use Rattle.std.proofs.lemmas.Nat.{and_mod, and_shr, or_mod, or_shr, xor_mod, xor_shr}
use Rattle.std.proofs.lemmas.Bool.{ltb-true, ltb-false}
use Rattle.c65_mach.specs.Step.{bit}
use Rattle.c65_code.specs.Rows.{low_byte, high_byte}

-- a word by its bytes
pub record IsWord (low high word : ℕ) : Type 0 where
  pub low_is : low ≡ low_byte word
  pub high_is : high ≡ high_byte word

module _ (a x l h : ℕ) (a_byte : a < 256) (x_byte : x < 256) (l_byte : l < 256) (h_byte : h < 256) where
  pub added : IsWord ((a + l + bit false) % 256) ((x + h + bit (nat_lt 255 (a + l + bit false))) % 256) ((a + 256 * x + (l + 256 * h)) % 65536)
  added = record { low_is = omega arith; high_is = pick (nat_lt 255 (a + l + 0)) refl }
    where
      pick : (b : Bool) → nat_lt 255 (a + l + 0) ≡ b → (x + h + bit b) % 256 ≡ high_byte ((a + 256 * x + (l + 256 * h)) % 65536)
      pick true e = let more : 255 < a + l + 0 = ltb-true 255 (a + l + 0) e in omega arith
      pick false e = let less : a + l + 0 ≤ 255 = ltb-false 255 (a + l + 0) e in omega arith

  pub taken : IsWord ((a + (255 - l) + bit true) % 256) ((x + (255 - h) + bit (nat_lt 255 (a + (255 - l) + bit true))) % 256) ((a + 256 * x + 65536 - (l + 256 * h)) % 65536)
  taken = record { low_is = omega arith; high_is = pick (nat_lt 255 (a + (255 - l) + 1)) refl }
    where
      pick : (b : Bool) → nat_lt 255 (a + (255 - l) + 1) ≡ b → (x + (255 - h) + bit b) % 256 ≡ high_byte ((a + 256 * x + 65536 - (l + 256 * h)) % 65536)
      pick true e = let more : 255 < a + (255 - l) + 1 = ltb-true 255 (a + (255 - l) + 1) e in omega arith
      pick false e = let less : a + (255 - l) + 1 ≤ 255 = ltb-false 255 (a + (255 - l) + 1) e in omega arith

  -- an operation on bits, which is done on each byte alone
  bits : (f : ℕ → ℕ → ℕ) → ((m n k : ℕ) → f m n % 2 ^ k ≡ f (m % 2 ^ k) (n % 2 ^ k)) → ((m n k : ℕ) → f m n / 2 ^ k ≡ f (m / 2 ^ k) (n / 2 ^ k)) → IsWord (f a l) (f x h) (f (a + 256 * x) (l + 256 * h))
  bits f by_rest by_part =
      let p : (a + 256 * x) % 256 ≡ a = omega arith in
      let q : (l + 256 * h) % 256 ≡ l = omega arith in
      let r : (a + 256 * x) / 256 ≡ x = omega arith in
      let z : (l + 256 * h) / 256 ≡ h = omega arith in
      let y : x % 256 ≡ x = omega arith in
      let w : h % 256 ≡ h = omega arith in
      record {
        low_is = sym (by_rest (a + 256 * x) (l + 256 * h) 8 ∙ (ap (λ (n : ℕ). f n ((l + 256 * h) % 256)) p ∙ ap (f a) q));
        high_is = sym (ap (λ (n : ℕ). n % 256) (by_part (a + 256 * x) (l + 256 * h) 8 ∙ (ap (λ (n : ℕ). f n ((l + 256 * h) / 256)) r ∙ ap (f x) z)) ∙ (by_rest x h 8 ∙ (ap (λ (n : ℕ). f n (h % 256)) y ∙ ap (f x) w)));
      }

  pub anded : IsWord (bit_and a l) (bit_and x h) (bit_and (a + 256 * x) (l + 256 * h))
  anded = bits bit_and and_mod and_shr

  pub ored : IsWord (bit_or a l) (bit_or x h) (bit_or (a + 256 * x) (l + 256 * h))
  ored = bits bit_or or_mod or_shr

  pub xored : IsWord (bit_xor a l) (bit_xor x h) (bit_xor (a + 256 * x) (l + 256 * h))
  xored = bits bit_xor xor_mod xor_shr
