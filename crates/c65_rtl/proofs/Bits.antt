-- AND, ORA and EOR: one law for what they make of numbers, byte by byte.
use Rattle.std.proofs.Common.{◌≡◌, ℕ, ◌+◌, ◌*◌, ◌^◌, ◌<◌, refl, sym, ap, ◌∙◌, arith}
use Rattle.std.specs.Prelude.{bit_and, bit_or, bit_xor}
use Rattle.std.proofs.lemmas.Nat.{and_block, or_block, xor_block, and_comm, or_comm, xor_comm, and_le_l, or_of_8, xor_of_8}
use Rattle.c65_mach.specs.Step.{kind_of, with_a}
use Rattle.c65_mach.specs.declared.rows.Op.{Op}
use Rattle.c65_mach.specs.declared.rows.Op.TheVariants.{And, Eor, Ora}
use Rattle.c65_mach.specs.declared.rows.Mode.TheVariants.{IndirectY}
use Rattle.c65_code.specs.declared.line.Operand.TheVariants.{Zero}
use Rattle.c65_code.specs.Forms.{Plain, op_form}
use Rattle.c65_code.specs.LineState.{State}
use Rattle.c65_code.specs.Moves.{ref_of, value_at, effect}
use Rattle.c65_rtl.specs.Assembly.{sp}
use Rattle.c65_rtl.proofs.UnaryWords.{AreWordBytes, word_bytes_of, AreLongBytes, long_bytes_of}

-- an operation that takes the bits of two numbers together
pub record IsBitwise (op : Op) (f : ℕ → ℕ → ℕ) : Type 0 where
  pub form : op_form (kind_of op) op IndirectY (Zero sp) ≡ Plain op IndirectY (Zero sp)
  pub acts : (w : ℕ) (t : State) → effect (kind_of op) op IndirectY w t ≡ record t { regs = with_a (f t.regs.a (value_at (ref_of IndirectY w t) t)) t.regs }
  pub block : (k a b r s : ℕ) → r < 2 ^ k → s < 2 ^ k → f (a * 2 ^ k + r) (b * 2 ^ k + s) ≡ f a b * 2 ^ k + f r s
  pub turns : (a b : ℕ) → f a b ≡ f b a
  pub byte : (a b : ℕ) → a < 256 → b < 256 → f a b < 256

and_of_8 : (a b : ℕ) → a < 256 → b < 256 → bit_and a b < 256
and_of_8 a b low high = let le = and_le_l a b in omega arith

pub and_bits : IsBitwise And bit_and
and_bits = record { form = refl; acts = λ w t. refl; block = and_block; turns = and_comm; byte = and_of_8 }

pub or_bits : IsBitwise Ora bit_or
or_bits = record { form = refl; acts = λ w t. refl; block = or_block; turns = or_comm; byte = or_of_8 }

pub xor_bits : IsBitwise Eor bit_xor
xor_bits = record { form = refl; acts = λ w t. refl; block = xor_block; turns = xor_comm; byte = xor_of_8 }

module _ (op : Op) (f : ℕ → ℕ → ℕ) (bits : IsBitwise op f) where
  in_word : (a x m0 m1 : ℕ) → a < 256 → m0 < 256 → f a m0 + 256 * f x m1 ≡ f (m0 + 256 * m1) (a + 256 * x)
  in_word a x m0 m1 la l0 =
      let block : f (m1 * 256 + m0) (x * 256 + a) ≡ f m1 x * 256 + f m0 a = bits.block 8 m1 x m0 a l0 la in
      let p : m0 + 256 * m1 ≡ m1 * 256 + m0 = omega arith in
      let q : a + 256 * x ≡ x * 256 + a = omega arith in
      let c : f a m0 ≡ f m0 a = bits.turns a m0 in
      let d : f x m1 ≡ f m1 x = bits.turns x m1 in
      let e : f a m0 + 256 * f x m1 ≡ f m1 x * 256 + f m0 a = omega arith in
      e ∙ (sym block ∙ (ap (λ (k : ℕ). f k (x * 256 + a)) (sym p) ∙ ap (f (m0 + 256 * m1)) (sym q)))

  in_long : (a x l h m0 m1 m2 m3 : ℕ) → a < 256 → x < 256 → l < 256 → m0 < 256 → m1 < 256 → m2 < 256
      → f a m0 + 256 * f x m1 + 65536 * (f l m2 + 256 * f h m3) ≡ f (m0 + 256 * m1 + 65536 * (m2 + 256 * m3)) (a + 256 * x + 65536 * (l + 256 * h))
  in_long a x l h m0 m1 m2 m3 la lx ll l0 l1 l2 =
      let under : m0 + 256 * m1 < 65536 = omega arith in
      let below : a + 256 * x < 65536 = omega arith in
      let block : f ((m2 + 256 * m3) * 65536 + (m0 + 256 * m1)) ((l + 256 * h) * 65536 + (a + 256 * x)) ≡ f (m2 + 256 * m3) (l + 256 * h) * 65536 + f (m0 + 256 * m1) (a + 256 * x) = bits.block 16 (m2 + 256 * m3) (l + 256 * h) (m0 + 256 * m1) (a + 256 * x) under below in
      let p : m0 + 256 * m1 + 65536 * (m2 + 256 * m3) ≡ (m2 + 256 * m3) * 65536 + (m0 + 256 * m1) = omega arith in
      let q : a + 256 * x + 65536 * (l + 256 * h) ≡ (l + 256 * h) * 65536 + (a + 256 * x) = omega arith in
      let low : f a m0 + 256 * f x m1 ≡ f (m0 + 256 * m1) (a + 256 * x) = in_word a x m0 m1 la l0 in
      let high : f l m2 + 256 * f h m3 ≡ f (m2 + 256 * m3) (l + 256 * h) = in_word l h m2 m3 ll l2 in
      let e : f a m0 + 256 * f x m1 + 65536 * (f l m2 + 256 * f h m3) ≡ f (m2 + 256 * m3) (l + 256 * h) * 65536 + f (m0 + 256 * m1) (a + 256 * x) = omega arith in
      e ∙ (sym block ∙ (ap (λ (k : ℕ). f k ((l + 256 * h) * 65536 + (a + 256 * x))) (sym p) ∙ ap (f (m0 + 256 * m1 + 65536 * (m2 + 256 * m3))) (sym q)))

  pub bits_word : (a x m0 m1 : ℕ) → a < 256 → x < 256 → m0 < 256 → m1 < 256 → AreWordBytes (f (m0 + 256 * m1) (a + 256 * x)) (f a m0) (f x m1)
  bits_word a x m0 m1 la lx l0 l1 = word_bytes_of (f (m0 + 256 * m1) (a + 256 * x)) (f a m0) (f x m1) (bits.byte a m0 la l0) (bits.byte x m1 lx l1) (in_word a x m0 m1 la l0)

  pub bits_long : (a x l h m0 m1 m2 m3 : ℕ) → a < 256 → x < 256 → l < 256 → h < 256 → m0 < 256 → m1 < 256 → m2 < 256 → m3 < 256
      → AreLongBytes (f (m0 + 256 * m1 + 65536 * (m2 + 256 * m3)) (a + 256 * x + 65536 * (l + 256 * h))) (f a m0) (f x m1) (f l m2) (f h m3)
  bits_long a x l h m0 m1 m2 m3 la lx ll lh l0 l1 l2 l3 =
      long_bytes_of (f (m0 + 256 * m1 + 65536 * (m2 + 256 * m3)) (a + 256 * x + 65536 * (l + 256 * h))) (f a m0) (f x m1) (f l m2) (f h m3) (bits.byte a m0 la l0) (bits.byte x m1 lx l1) (in_long a x l h m0 m1 m2 m3 la lx ll l0 l1 l2)
