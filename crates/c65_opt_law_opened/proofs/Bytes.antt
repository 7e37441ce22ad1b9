-- Words of 16 bits, byte by byte, as the processor negates and shifts them.
use Rattle.std.proofs.Common.{◌≡◌, ℕ, ◌+◌, ◌-◌, ◌*◌, ◌/◌, ◌%◌, ◌<◌, ◌≤◌, ◌==◌, Bool, true, false, if◌then◌else◌, refl, sym, arith}
use Rattle.std.specs.Prelude.{nat_lt, nat_le, bit_and, bit_xor}
use Rattle.std.specs.Int.Bits.{xor_add_and}
use Rattle.std.proofs.lemmas.Nat.{and_mask}
use Rattle.std.proofs.lemmas.Bool.{ltb-true, ltb-false, leb-true, leb-false, eqb-true, eqb-false}
use Rattle.c65_mach.specs.Step.{bit}
use Rattle.c65_code.specs.declared.routine.Width.TheVariants.{Ax}
use Rattle.c65_code.specs.Numbers.{shifted_right}
use Rattle.c65_code.specs.Rows.{low_byte, high_byte}

-- a word by its bytes
pub record IsWord (low high word : ℕ) : Type 0 where
  pub low_is : low ≡ low_byte word
  pub high_is : high ≡ high_byte word

joined : (low high word : ℕ) → low < 256 → high < 256 → low + 256 * high ≡ word → IsWord low high word
joined low high word l h e = record { low_is = omega arith; high_is = omega arith }

-- ---- flags as numbers

carry : (n : ℕ) → n < 512 → bit (nat_lt 255 n) ≡ n / 256
carry n less = pick (nat_lt 255 n) refl
  where
    pick : (b : Bool) → nat_lt 255 n ≡ b → bit b ≡ n / 256
    pick true e = let more : 255 < n = ltb-true 255 n e in omega (arith, less)
    pick false e = let few : n ≤ 255 = ltb-false 255 n e in omega arith

sign : (n : ℕ) → n < 256 → bit (nat_lt 127 n) ≡ n / 128
sign n less = pick (nat_lt 127 n) refl
  where
    pick : (b : Bool) → nat_lt 127 n ≡ b → bit b ≡ n / 128
    pick true e = let more : 127 < n = ltb-true 127 n e in omega (arith, less)
    pick false e = let few : n ≤ 127 = ltb-false 127 n e in omega arith

top : (n : ℕ) → n < 256 → bit (nat_lt 128 (n + 1)) ≡ n / 128
top n less = pick (nat_lt 128 (n + 1)) refl
  where
    pick : (b : Bool) → nat_lt 128 (n + 1) ≡ b → bit b ≡ n / 128
    pick true e = let more : 128 < n + 1 = ltb-true 128 (n + 1) e in omega (arith, less)
    pick false e = let few : n + 1 ≤ 128 = ltb-false 128 (n + 1) e in omega arith

odd : (n : ℕ) → bit (n % 2 == 1) ≡ n % 2
odd n = pick (n % 2 == 1) refl
  where
    pick : (b : Bool) → (n % 2 == 1) ≡ b → bit b ≡ n % 2
    pick true e = sym (eqb-true (n % 2) 1 e)
    pick false e = let other : n % 2 ≡ 1 → ⊥ = eqb-false (n % 2) 1 e in omega (arith, other)

ones : (n : ℕ) → n < 256 → bit_xor n 255 ≡ 255 - n
ones n less =
    let sum : bit_xor n 255 + bit_and n 255 * 2 ≡ n + 255 = xor_add_and n 255 in
    let mask : bit_and n 255 ≡ n % 256 = and_mask n 8 in
    omega arith

-- ---- words

module _ (a x : ℕ) (a_byte : a < 256) (x_byte : x < 256) where
  pub negated : IsWord ((bit_xor a 255 + 1 + bit false) % 256) ((bit_xor x 255 + 0 + bit (nat_lt 255 (bit_xor a 255 + 1 + bit false))) % 256) ((65536 - (a + 256 * x)) % 65536)
  negated =
      let low : bit_xor a 255 ≡ 255 - a = ones a a_byte in
      let high : bit_xor x 255 ≡ 255 - x = ones x x_byte in
      let c : bit (nat_lt 255 (bit_xor a 255 + 1 + 0)) ≡ (bit_xor a 255 + 1 + 0) / 256 = carry (bit_xor a 255 + 1 + 0) (omega arith) in
      joined _ _ _ (omega arith) (omega arith) (omega arith)

  pub complemented : IsWord (bit_xor a 255) (bit_xor x 255) (65535 - (a + 256 * x))
  complemented =
      let low : bit_xor a 255 ≡ 255 - a = ones a a_byte in
      let high : bit_xor x 255 ≡ 255 - x = ones x x_byte in
      joined _ _ _ (omega arith) (omega arith) (omega arith)

  pub doubled : IsWord ((2 * a) % 256) ((2 * x) % 256 + bit (nat_lt 127 a)) ((2 * (a + 256 * x)) % 65536)
  doubled = let c : bit (nat_lt 127 a) ≡ a / 128 = sign a a_byte in joined _ _ _ (omega arith) (omega arith) (omega arith)

  pub halved : IsWord (a / 2 + 128 * bit (x % 2 == 1)) (x / 2) ((a + 256 * x) / 2)
  halved = let c : bit (x % 2 == 1) ≡ x % 2 = odd x in joined _ _ _ (omega arith) (omega arith) (omega arith)

  -- the word shifted to the right with its sign
  signed_half : shifted_right Ax (a + 256 * x) 1 ≡ (a + 256 * x) / 2 + 32768 * (x / 128)
  signed_half = pick (nat_le 32768 (a + 256 * x)) refl
    where
      pick : (b : Bool) → nat_le 32768 (a + 256 * x) ≡ b → (if b then (a + 256 * x) / 2 + 32768 else (a + 256 * x) / 2) ≡ (a + 256 * x) / 2 + 32768 * (x / 128)
      pick true e = let more : 32768 ≤ a + 256 * x = leb-true 32768 (a + 256 * x) e in omega arith
      pick false e = let few : a + 256 * x < 32768 = leb-false 32768 (a + 256 * x) e in omega arith

  pub signed_halved : IsWord (a / 2 + 128 * bit (x % 2 == 1)) (x / 2 + 128 * bit (nat_lt 128 (x + 1))) (shifted_right Ax (a + 256 * x) 1)
  signed_halved =
      let c : bit (x % 2 == 1) ≡ x % 2 = odd x in
      let s : bit (nat_lt 128 (x + 1)) ≡ x / 128 = top x x_byte in
      let half : shifted_right Ax (a + 256 * x) 1 ≡ (a + 256 * x) / 2 + 32768 * (x / 128) = signed_half in
      joined _ _ _ (omega arith) (omega arith) (omega arith)
