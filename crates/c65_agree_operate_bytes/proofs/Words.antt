-- Sums, differences and operators on bits of two words, byte by byte.
use Rattle.std.proofs.Common.{◌≡◌, ℕ, ◌+◌, ◌-◌, ◌*◌, ◌/◌, ◌%◌, ◌<◌, ◌≤◌, ◌^◌, Bool, true, false, Some, refl, ap, ◌∙◌, arith}
use Rattle.std.specs.Prelude.{nat_lt, bit_and, bit_or, bit_xor}
use Rattle.std.proofs.lemmas.Nat.{and_mod, and_shr, or_mod, or_shr, xor_mod, xor_shr}
use Rattle.std.proofs.lemmas.Bool.{ltb-true, ltb-false}
use Rattle.c65_base.specs.declared.operators.BinaryOp.{BinaryOp}
use Rattle.c65_base.specs.declared.operators.BinaryOp.TheVariants as ops
use Rattle.c65_mach.specs.Step.{bit}
use Rattle.c65_code.specs.declared.routine.Width.TheVariants.{Ax}
use Rattle.c65_code.specs.Numbers.{tos_result}
use Rattle.c65_genwide.specs.Wide.{tos_of}
use Rattle.c65_genexpr.specs.Operating.{takes_bytes}

-- the result of an operator on two words
abbrev pub word_on : BinaryOp → ℕ → ℕ → ℕ
word_on ops.Add m n = (m + n) % 65536
word_on ops.Sub m n = (m + 65536 - n) % 65536
word_on ops.BitAnd m n = bit_and m n
word_on ops.BitXor m n = bit_xor m n
word_on _ m n = bit_or m n

pub word_is : (op : BinaryOp) (sign : Bool) (m n : ℕ) → takes_bytes op ≡ true → tos_result (tos_of op sign) Ax m n ≡ Some (word_on op m n)
word_is ops.Add sign m n h = refl
word_is ops.Sub sign m n h = refl
word_is ops.BitAnd sign m n h = refl
word_is ops.BitXor sign m n h = refl
word_is ops.BitOr sign m n h = refl
word_is ops.Mul sign m n h = absurd (cc)
word_is ops.Div sign m n h = absurd (cc)
word_is ops.Rem sign m n h = absurd (cc)
word_is ops.Shl sign m n h = absurd (cc)
word_is ops.Shr sign m n h = absurd (cc)
word_is ops.Lt sign m n h = absurd (cc)
word_is ops.Gt sign m n h = absurd (cc)
word_is ops.Le sign m n h = absurd (cc)
word_is ops.Ge sign m n h = absurd (cc)
word_is ops.Eq sign m n h = absurd (cc)
word_is ops.Ne sign m n h = absurd (cc)

-- the carry with which the low bytes begin
abbrev pub begins : BinaryOp → Bool → Bool
begins ops.Add c = false
begins ops.Sub c = true
begins _ c = c

-- a byte of the result, and the carry behind it
abbrev pub byte_on : BinaryOp → ℕ → ℕ → Bool → ℕ
byte_on ops.Add a v c = (a + v + bit c) % 256
byte_on ops.Sub a v c = (a + (255 - v) + bit c) % 256
byte_on ops.BitAnd a v c = bit_and a v
byte_on ops.BitXor a v c = bit_xor a v
byte_on _ a v c = bit_or a v

abbrev pub carry_on : BinaryOp → ℕ → ℕ → Bool → Bool
carry_on ops.Add a v c = nat_lt 255 (a + v + bit c)
carry_on ops.Sub a v c = nat_lt 255 (a + (255 - v) + bit c)
carry_on _ a v c = c

module _ (a x l h : ℕ) (a_byte : a < 256) (x_byte : x < 256) (l_byte : l < 256) (h_byte : h < 256) where
  added : (c : Bool) → byte_on ops.Add a l (begins ops.Add c) + 256 * byte_on ops.Add x h (carry_on ops.Add a l (begins ops.Add c)) ≡ word_on ops.Add (a + 256 * x) (l + 256 * h)
  added c = pick (nat_lt 255 (a + l + 0)) refl
    where
      pick : (b : Bool) → nat_lt 255 (a + l + 0) ≡ b → (a + l + 0) % 256 + 256 * ((x + h + bit b) % 256) ≡ (a + 256 * x + (l + 256 * h)) % 65536
      pick true e = let more : 255 < a + l + 0 = ltb-true 255 (a + l + 0) e in omega arith
      pick false e = let less : a + l + 0 ≤ 255 = ltb-false 255 (a + l + 0) e in omega arith

  taken : (c : Bool) → byte_on ops.Sub a l (begins ops.Sub c) + 256 * byte_on ops.Sub x h (carry_on ops.Sub a l (begins ops.Sub c)) ≡ word_on ops.Sub (a + 256 * x) (l + 256 * h)
  taken c = pick (nat_lt 255 (a + (255 - l) + 1)) refl
    where
      pick : (b : Bool) → nat_lt 255 (a + (255 - l) + 1) ≡ b → (a + (255 - l) + 1) % 256 + 256 * ((x + (255 - h) + bit b) % 256) ≡ (a + 256 * x + 65536 - (l + 256 * h)) % 65536
      pick true e = let more : 255 < a + (255 - l) + 1 = ltb-true 255 (a + (255 - l) + 1) e in omega arith
      pick false e = let less : a + (255 - l) + 1 ≤ 255 = ltb-false 255 (a + (255 - l) + 1) e in omega arith

  -- an operation on bits, which is done on each byte alone
  bits : (f : ℕ → ℕ → ℕ) → ((m n k : ℕ) → f m n % 2 ^ k ≡ f (m % 2 ^ k) (n % 2 ^ k)) → ((m n k : ℕ) → f m n / 2 ^ k ≡ f (m / 2 ^ k) (n / 2 ^ k)) → f a l + 256 * f x h ≡ f (a + 256 * x) (l + 256 * h)
  bits f by_rest by_part =
      let p : (a + 256 * x) % 256 ≡ a = omega arith in
      let q : (l + 256 * h) % 256 ≡ l = omega arith in
      let r : (a + 256 * x) / 256 ≡ x = omega arith in
      let z : (l + 256 * h) / 256 ≡ h = omega arith in
      let low : f (a + 256 * x) (l + 256 * h) % 256 ≡ f a l = by_rest (a + 256 * x) (l + 256 * h) 8 ∙ (ap (λ (n : ℕ). f n ((l + 256 * h) % 256)) p ∙ ap (f a) q) in
      let high : f (a + 256 * x) (l + 256 * h) / 256 ≡ f x h = by_part (a + 256 * x) (l + 256 * h) 8 ∙ (ap (λ (n : ℕ). f n ((l + 256 * h) / 256)) r ∙ ap (f x) z) in
      omega (arith, low, high)

  pub by_bytes : (op : BinaryOp) (c : Bool) → takes_bytes op ≡ true → byte_on op a l (begins op c) + 256 * byte_on op x h (carry_on op a l (begins op c)) ≡ word_on op (a + 256 * x) (l + 256 * h)
  by_bytes ops.Add c e = added c
  by_bytes ops.Sub c e = taken c
  by_bytes ops.BitAnd c e = bits bit_and and_mod and_shr
  by_bytes ops.BitXor c e = bits bit_xor xor_mod xor_shr
  by_bytes ops.BitOr c e = bits bit_or or_mod or_shr
  by_bytes ops.Mul c e = absurd (cc)
  by_bytes ops.Div c e = absurd (cc)
  by_bytes ops.Rem c e = absurd (cc)
  by_bytes ops.Shl c e = absurd (cc)
  by_bytes ops.Shr c e = absurd (cc)
  by_bytes ops.Lt c e = absurd (cc)
  by_bytes ops.Gt c e = absurd (cc)
  by_bytes ops.Le c e = absurd (cc)
  by_bytes ops.Ge c e = absurd (cc)
  by_bytes ops.Eq c e = absurd (cc)
  by_bytes ops.Ne c e = absurd (cc)
