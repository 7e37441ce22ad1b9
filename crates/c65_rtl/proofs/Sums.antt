-- The bytes of sums, differences and of bits taken together.
use Rattle.std.proofs.Common.{◌≡◌, ℕ, ◌+◌, ◌-◌, ◌*◌, ◌/◌, ◌%◌, ◌<◌, ap, ◌∙◌, arith}
use Rattle.std.specs.Prelude.{nat_lt}
use Rattle.c65_mach.specs.Step.{bit}
use Rattle.c65_code.specs.LineState.{Bytes, word_at}
use Rattle.c65_code.specs.Rows.{long_at}
use Rattle.c65_rtl.proofs.UnaryWords.{bit_carry, AreWordBytes, word_bytes_of, AreLongBytes, long_bytes_of}
use Rattle.c65_rtl.proofs.UnaryLongs.{four_sums}

-- the bytes of the value on the stack
pub record Operand (m : Bytes) (at m0 m1 m2 m3 : ℕ) : Type 0 where
  pub word : m0 + 256 * m1 ≡ word_at m at
  pub long : m0 + 256 * m1 + 65536 * (m2 + 256 * m3) ≡ long_at m at
  pub b0 : m0 < 256
  pub b1 : m1 < 256
  pub b2 : m2 < 256
  pub b3 : m3 < 256

pub operand : (m : Bytes) (at m0 m1 m2 m3 : ℕ) → ((b : ℕ) → m b < 256) → m0 ≡ m at → m1 ≡ m (at + 1) → m2 ≡ m (at + 2) → m3 ≡ m (at + 3) → Operand m at m0 m1 m2 m3
operand m at m0 m1 m2 m3 bytes e0 e1 e2 e3 =
    let e : at + 3 ≡ at + 2 + 1 = omega arith in
    let last : m3 ≡ m (at + 2 + 1) = e3 ∙ ap m e in
    let c0 = bytes at in
    let c1 = bytes (at + 1) in
    let c2 = bytes (at + 2) in
    let c3 = bytes (at + 2 + 1) in
    record { word = omega arith; long = omega arith; b0 = omega arith; b1 = omega arith; b2 = omega arith; b3 = omega arith }

-- sums with carries
abbrev pub plus_0 : ℕ → ℕ → ℕ
plus_0 a m0 = a + m0 + 0

abbrev pub plus_1 : ℕ → ℕ → ℕ → ℕ → ℕ
plus_1 a x m0 m1 = x + m1 + bit (nat_lt 255 (plus_0 a m0))

abbrev pub plus_2 : ℕ → ℕ → ℕ → ℕ → ℕ → ℕ → ℕ
plus_2 a x l m0 m1 m2 = l + m2 + bit (nat_lt 255 (plus_1 a x m0 m1))

abbrev pub plus_3 : ℕ → ℕ → ℕ → ℕ → ℕ → ℕ → ℕ → ℕ → ℕ
plus_3 a x l h m0 m1 m2 m3 = h + m3 + bit (nat_lt 255 (plus_2 a x l m0 m1 m2))

-- differences, where C set means that nothing is borrowed
abbrev pub minus_0 : ℕ → ℕ → ℕ
minus_0 a m0 = m0 + (255 - a) + 1

abbrev pub minus_1 : ℕ → ℕ → ℕ → ℕ → ℕ
minus_1 a x m0 m1 = m1 + (255 - x) + bit (nat_lt 255 (minus_0 a m0))

abbrev pub minus_2 : ℕ → ℕ → ℕ → ℕ → ℕ → ℕ → ℕ
minus_2 a x l m0 m1 m2 = m2 + (255 - l) + bit (nat_lt 255 (minus_1 a x m0 m1))

abbrev pub minus_3 : ℕ → ℕ → ℕ → ℕ → ℕ → ℕ → ℕ → ℕ → ℕ
minus_3 a x l h m0 m1 m2 m3 = m3 + (255 - h) + bit (nat_lt 255 (minus_2 a x l m0 m1 m2))

pub add_word : (a x m0 m1 : ℕ) → a < 256 → x < 256 → m0 < 256 → m1 < 256 → AreWordBytes (((m0 + 256 * m1) + (a + 256 * x)) % 65536) (plus_0 a m0 % 256) (plus_1 a x m0 m1 % 256)
add_word a x m0 m1 la lx l0 l1 =
    let small : plus_0 a m0 < 512 = omega arith in
    let carry : bit (nat_lt 255 (plus_0 a m0)) ≡ (plus_0 a m0) / 256 = bit_carry (plus_0 a m0) small in
    let low : plus_0 a m0 % 256 < 256 = omega arith in
    let high : plus_1 a x m0 m1 % 256 < 256 = omega arith in
    let sum : plus_0 a m0 % 256 + 256 * (plus_1 a x m0 m1 % 256) ≡ ((m0 + 256 * m1) + (a + 256 * x)) % 65536 = omega arith in
    word_bytes_of (((m0 + 256 * m1) + (a + 256 * x)) % 65536) (plus_0 a m0 % 256) (plus_1 a x m0 m1 % 256) low high sum

pub add_long : (a x l h m0 m1 m2 m3 : ℕ) → a < 256 → x < 256 → l < 256 → h < 256 → m0 < 256 → m1 < 256 → m2 < 256 → m3 < 256 → AreLongBytes (((m0 + 256 * m1 + 65536 * (m2 + 256 * m3)) + (a + 256 * x + 65536 * (l + 256 * h))) % 4294967296) (plus_0 a m0 % 256) (plus_1 a x m0 m1 % 256) (plus_2 a x l m0 m1 m2 % 256) (plus_3 a x l h m0 m1 m2 m3 % 256)
add_long a x l h m0 m1 m2 m3 la lx ll lh l0 l1 l2 l3 =
    let t0 : plus_0 a m0 < 512 = omega arith in
    let c0 : bit (nat_lt 255 (plus_0 a m0)) ≡ (plus_0 a m0) / 256 = bit_carry (plus_0 a m0) t0 in
    let t1 : plus_1 a x m0 m1 < 512 = omega arith in
    let c1 : bit (nat_lt 255 (plus_1 a x m0 m1)) ≡ (plus_1 a x m0 m1) / 256 = bit_carry (plus_1 a x m0 m1) t1 in
    let t2 : plus_2 a x l m0 m1 m2 < 512 = omega arith in
    let c2 : bit (nat_lt 255 (plus_2 a x l m0 m1 m2)) ≡ (plus_2 a x l m0 m1 m2) / 256 = bit_carry (plus_2 a x l m0 m1 m2) t2 in
    let f0 : plus_0 a m0 ≡ a + m0 = omega arith in
    let f1 : plus_1 a x m0 m1 ≡ x + m1 + (a + m0) / 256 = omega arith in
    let f2 : plus_2 a x l m0 m1 m2 ≡ l + m2 + (plus_1 a x m0 m1) / 256 = omega arith in
    let f3 : plus_3 a x l h m0 m1 m2 m3 ≡ h + m3 + (plus_2 a x l m0 m1 m2) / 256 = omega arith in
    let all = four_sums (a + m0) (x + m1) (l + m2) (h + m3) (plus_1 a x m0 m1) (plus_2 a x l m0 m1 m2) (plus_3 a x l h m0 m1 m2 m3) f1 f2 f3 in
    let same : plus_0 a m0 % 256 ≡ (a + m0) % 256 = ap (λ (k : ℕ). k % 256) f0 in
    let number : a + m0 + 256 * (x + m1) + 65536 * (l + m2) + 16777216 * (h + m3) ≡ (m0 + 256 * m1 + 65536 * (m2 + 256 * m3)) + (a + 256 * x + 65536 * (l + 256 * h)) = omega arith in
    let low : plus_0 a m0 % 256 < 256 = omega arith in
    let high : plus_1 a x m0 m1 % 256 < 256 = omega arith in
    let sum : plus_0 a m0 % 256 + 256 * (plus_1 a x m0 m1 % 256) + 65536 * (plus_2 a x l m0 m1 m2 % 256 + 256 * (plus_3 a x l h m0 m1 m2 m3 % 256)) ≡ ((m0 + 256 * m1 + 65536 * (m2 + 256 * m3)) + (a + 256 * x + 65536 * (l + 256 * h))) % 4294967296 =
    ap (λ (k : ℕ). k + 256 * (plus_1 a x m0 m1 % 256) + 65536 * (plus_2 a x l m0 m1 m2 % 256 + 256 * (plus_3 a x l h m0 m1 m2 m3 % 256))) same ∙ (all ∙ ap (λ (k : ℕ). k % 4294967296) number) in
    long_bytes_of (((m0 + 256 * m1 + 65536 * (m2 + 256 * m3)) + (a + 256 * x + 65536 * (l + 256 * h))) % 4294967296) (plus_0 a m0 % 256) (plus_1 a x m0 m1 % 256) (plus_2 a x l m0 m1 m2 % 256) (plus_3 a x l h m0 m1 m2 m3 % 256) low high sum

pub sub_word : (a x m0 m1 : ℕ) → a < 256 → x < 256 → m0 < 256 → m1 < 256 → AreWordBytes (((m0 + 256 * m1) + 65536 - (a + 256 * x)) % 65536) (minus_0 a m0 % 256) (minus_1 a x m0 m1 % 256)
sub_word a x m0 m1 la lx l0 l1 =
    let small : minus_0 a m0 < 512 = omega arith in
    let carry : bit (nat_lt 255 (minus_0 a m0)) ≡ (minus_0 a m0) / 256 = bit_carry (minus_0 a m0) small in
    let low : minus_0 a m0 % 256 < 256 = omega arith in
    let high : minus_1 a x m0 m1 % 256 < 256 = omega arith in
    let sum : minus_0 a m0 % 256 + 256 * (minus_1 a x m0 m1 % 256) ≡ ((m0 + 256 * m1) + 65536 - (a + 256 * x)) % 65536 = omega arith in
    word_bytes_of (((m0 + 256 * m1) + 65536 - (a + 256 * x)) % 65536) (minus_0 a m0 % 256) (minus_1 a x m0 m1 % 256) low high sum

pub sub_long : (a x l h m0 m1 m2 m3 : ℕ) → a < 256 → x < 256 → l < 256 → h < 256 → m0 < 256 → m1 < 256 → m2 < 256 → m3 < 256 → AreLongBytes (((m0 + 256 * m1 + 65536 * (m2 + 256 * m3)) + 4294967296 - (a + 256 * x + 65536 * (l + 256 * h))) % 4294967296) (minus_0 a m0 % 256) (minus_1 a x m0 m1 % 256) (minus_2 a x l m0 m1 m2 % 256) (minus_3 a x l h m0 m1 m2 m3 % 256)
sub_long a x l h m0 m1 m2 m3 la lx ll lh l0 l1 l2 l3 =
    let t0 : minus_0 a m0 < 512 = omega arith in
    let c0 : bit (nat_lt 255 (minus_0 a m0)) ≡ (minus_0 a m0) / 256 = bit_carry (minus_0 a m0) t0 in
    let t1 : minus_1 a x m0 m1 < 512 = omega arith in
    let c1 : bit (nat_lt 255 (minus_1 a x m0 m1)) ≡ (minus_1 a x m0 m1) / 256 = bit_carry (minus_1 a x m0 m1) t1 in
    let t2 : minus_2 a x l m0 m1 m2 < 512 = omega arith in
    let c2 : bit (nat_lt 255 (minus_2 a x l m0 m1 m2)) ≡ (minus_2 a x l m0 m1 m2) / 256 = bit_carry (minus_2 a x l m0 m1 m2) t2 in
    let f0 : minus_0 a m0 ≡ 256 - a + m0 = omega arith in
    let f1 : minus_1 a x m0 m1 ≡ 255 - x + m1 + (256 - a + m0) / 256 = omega arith in
    let f2 : minus_2 a x l m0 m1 m2 ≡ 255 - l + m2 + (minus_1 a x m0 m1) / 256 = omega arith in
    let f3 : minus_3 a x l h m0 m1 m2 m3 ≡ 255 - h + m3 + (minus_2 a x l m0 m1 m2) / 256 = omega arith in
    let all = four_sums (256 - a + m0) (255 - x + m1) (255 - l + m2) (255 - h + m3) (minus_1 a x m0 m1) (minus_2 a x l m0 m1 m2) (minus_3 a x l h m0 m1 m2 m3) f1 f2 f3 in
    let same : minus_0 a m0 % 256 ≡ (256 - a + m0) % 256 = ap (λ (k : ℕ). k % 256) f0 in
    let number : 256 - a + m0 + 256 * (255 - x + m1) + 65536 * (255 - l + m2) + 16777216 * (255 - h + m3) ≡ (m0 + 256 * m1 + 65536 * (m2 + 256 * m3)) + 4294967296 - (a + 256 * x + 65536 * (l + 256 * h)) = omega arith in
    let low : minus_0 a m0 % 256 < 256 = omega arith in
    let high : minus_1 a x m0 m1 % 256 < 256 = omega arith in
    let sum : minus_0 a m0 % 256 + 256 * (minus_1 a x m0 m1 % 256) + 65536 * (minus_2 a x l m0 m1 m2 % 256 + 256 * (minus_3 a x l h m0 m1 m2 m3 % 256)) ≡ ((m0 + 256 * m1 + 65536 * (m2 + 256 * m3)) + 4294967296 - (a + 256 * x + 65536 * (l + 256 * h))) % 4294967296 =
    ap (λ (k : ℕ). k + 256 * (minus_1 a x m0 m1 % 256) + 65536 * (minus_2 a x l m0 m1 m2 % 256 + 256 * (minus_3 a x l h m0 m1 m2 m3 % 256))) same ∙ (all ∙ ap (λ (k : ℕ). k % 4294967296) number) in
    long_bytes_of (((m0 + 256 * m1 + 65536 * (m2 + 256 * m3)) + 4294967296 - (a + 256 * x + 65536 * (l + 256 * h))) % 4294967296) (minus_0 a m0 % 256) (minus_1 a x m0 m1 % 256) (minus_2 a x l m0 m1 m2 % 256) (minus_3 a x l h m0 m1 m2 m3 % 256) low high sum
