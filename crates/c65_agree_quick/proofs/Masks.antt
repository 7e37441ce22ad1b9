-- Bits that a constant has, by bytes.
use Rattle.std.proofs.Common.{◌≡◌, ℕ, ◌+◌, ◌*◌, ◌/◌, ◌%◌, ◌^◌, ◌<◌, ◌≤◌, List, [], ◌∷◌, ◌++◌, length, Bool, true, false, refl, sym, ap, ◌∙◌, arith}
use Rattle.std.specs.Prelude.{nat_lt, ◌==◌, if◌then◌else◌, bit_and, bit_or, bit_xor}
use Rattle.std.specs.Int.Bits.{and_zero_r}
use Rattle.std.proofs.lemmas.Nat.{and_mod, and_shr, or_mod, or_shr, xor_mod, xor_shr}
use Rattle.std.proofs.lemmas.Bool.{eqb-true, ltb-true}
use Rattle.c65_base.specs.declared.operators.BinaryOp.{BinaryOp}
use Rattle.c65_base.specs.declared.operators.BinaryOp.TheVariants as ops
use Rattle.c65_mach.specs.declared.rows.Op.TheVariants.{And, Ldx, Ldy, Sty, Tax, Tay, Txa, Tya}
use Rattle.c65_code.specs.declared.line.Line.{Line}
use Rattle.c65_code.specs.declared.routine.Width.{Width}
use Rattle.c65_code.specs.declared.routine.Width.TheVariants.{Ax, Eax}
use Rattle.c65_code.specs.LineState.{State, ax_of, eax_of, IsBytes}
use Rattle.c65_genwide.specs.Lines.{value}
use Rattle.c65_genload.specs.Words.{sreg, implied, zero_page}
use Rattle.c65_genload.specs.Numbers.{first, second, third, fourth, mask_code}
use Rattle.c65_gendirect.specs.Words.{long_mask_code}
use Rattle.c65_genshift.specs.Quick.{mask_word_code, mask_high_code, mask_long_code, mask_by_width}
use Rattle.c65_agree_state.specs.World.{World}
use Rattle.c65_agree_frame.proofs.Leads.{after_lines}
use Rattle.c65_agree_quick.specs.Laws.{IsBits}
use Rattle.c65_agree_quick.proofs.Scratch.{AreScratch, scratch_append, after_append}

-- ---- operators on bits

abbrev pub bits_on : BinaryOp → ℕ → ℕ → ℕ
bits_on ops.BitAnd m n = bit_and m n
bits_on ops.BitXor m n = bit_xor m n
bits_on _ m n = bit_or m n

low_bits : (op : BinaryOp) → IsBits op → (m n k : ℕ) → bits_on op m n % 2 ^ k ≡ bits_on op (m % 2 ^ k) (n % 2 ^ k)
low_bits ops.BitAnd o = and_mod
low_bits ops.BitXor o = xor_mod
low_bits ops.BitOr o = or_mod
low_bits _ o = absurd o

high_bits : (op : BinaryOp) → IsBits op → (m n k : ℕ) → bits_on op m n / 2 ^ k ≡ bits_on op (m / 2 ^ k) (n / 2 ^ k)
high_bits ops.BitAnd o = and_shr
high_bits ops.BitXor o = xor_shr
high_bits ops.BitOr o = or_shr
high_bits _ o = absurd o

-- done on each of two parts alone
bits_by_parts : (op : BinaryOp) → IsBits op → (a x l h : ℕ) → a < 256 → l < 256 → bits_on op a l + 256 * bits_on op x h ≡ bits_on op (a + 256 * x) (l + 256 * h)
bits_by_parts op o a x l h a_byte l_byte =
    let p : (a + 256 * x) % 256 ≡ a = omega (arith, a_byte) in
    let q : (l + 256 * h) % 256 ≡ l = omega (arith, l_byte) in
    let r : (a + 256 * x) / 256 ≡ x = omega (arith, a_byte) in
    let s : (l + 256 * h) / 256 ≡ h = omega (arith, l_byte) in
    let low : bits_on op (a + 256 * x) (l + 256 * h) % 256 ≡ bits_on op a l = low_bits op o (a + 256 * x) (l + 256 * h) 8 ∙ (ap (λ (n : ℕ). bits_on op n ((l + 256 * h) % 256)) p ∙ ap (bits_on op a) q) in
    let high : bits_on op (a + 256 * x) (l + 256 * h) / 256 ≡ bits_on op x h = high_bits op o (a + 256 * x) (l + 256 * h) 8 ∙ (ap (λ (n : ℕ). bits_on op n ((l + 256 * h) / 256)) r ∙ ap (bits_on op x) s) in
    omega (arith, low, high)

-- of the number n, by its bytes
bits_of_word : (op : BinaryOp) → IsBits op → (a x n : ℕ) → a < 256 → n < 65536 → bits_on op a (first n) + 256 * bits_on op x (second n) ≡ bits_on op (a + 256 * x) n
bits_of_word op o a x n a_byte small =
    let whole : first n + 256 * second n ≡ n = omega (arith, small) in
    bits_by_parts op o a x (first n) (second n) a_byte (omega arith) ∙ ap (bits_on op (a + 256 * x)) whole

pub bits_of_long : (op : BinaryOp) → IsBits op → (a x l h n : ℕ) → a < 256 → x < 256 → l < 256 → n < 4294967296
    → bits_on op a (first n) + 256 * bits_on op x (second n) + 65536 * (bits_on op l (third n) + 256 * bits_on op h (fourth n)) ≡ bits_on op (a + 256 * x + 65536 * (l + 256 * h)) n
bits_of_long op o a x l h n a_byte x_byte l_byte small =
    let top : bits_on op l (third n) + 256 * bits_on op h (fourth n) ≡ bits_on op (l + 256 * h) (n / 65536) =
    bits_by_parts op o l h (third n) (fourth n) l_byte (omega arith) ∙ ap (bits_on op (l + 256 * h)) (upper n small) in
    let middle : bits_on op x (second n) + 256 * bits_on op (l + 256 * h) (n / 65536) ≡ bits_on op (x + 256 * (l + 256 * h)) (n / 256) =
    bits_by_parts op o x (l + 256 * h) (second n) (n / 65536) x_byte (omega arith) ∙ ap (bits_on op (x + 256 * (l + 256 * h))) (next n) in
    let low : bits_on op a (first n) + 256 * bits_on op (x + 256 * (l + 256 * h)) (n / 256) ≡ bits_on op (a + 256 * (x + 256 * (l + 256 * h))) n =
    bits_by_parts op o a (x + 256 * (l + 256 * h)) (first n) (n / 256) a_byte (omega arith) ∙ ap (bits_on op (a + 256 * (x + 256 * (l + 256 * h)))) (all n) in
    let same : a + 256 * (x + 256 * (l + 256 * h)) ≡ a + 256 * x + 65536 * (l + 256 * h) = omega arith in
    omega (arith, top, middle, low) ∙ ap (λ m. bits_on op m n) same
  where
    upper : (n : ℕ) → n < 4294967296 → third n + 256 * fourth n ≡ n / 65536
    upper n small = omega (arith, small)

    next : (n : ℕ) → second n + 256 * (n / 65536) ≡ n / 256
    next n = omega arith

    all : (n : ℕ) → first n + 256 * (n / 256) ≡ n
    all n = omega arith

-- ---- the bits that n has

pub mask_word_scratch : (n : ℕ) → AreScratch (mask_word_code n)
mask_word_scratch n = by (second n == 0)
  where
    by : (b : Bool) → AreScratch (if b then value And (first n) ∷ value Ldx 0 ∷ [] else mask_code n)
    by true = (omega arith, (omega arith, tt))
    by false = (omega arith, (tt, (tt, (omega arith, (tt, (tt, tt))))))

record IsMasked (n : ℕ) (t u : State) : Type 0 where
  a : u.regs.a ≡ bit_and t.regs.a (first n)
  x : u.regs.x ≡ bit_and t.regs.x (second n)
  low : u.zp 2 ≡ t.zp 2
  high : u.zp 3 ≡ t.zp 3

masked_word : (g : World) (n : ℕ) (t : State) → IsMasked n t (after_lines g (mask_word_code n) t)
masked_word g n t = by (second n == 0) refl
  where
    by : (b : Bool) → (second n == 0) ≡ b → IsMasked n t (after_lines g (if b then value And (first n) ∷ value Ldx 0 ∷ [] else mask_code n) t)
    by true e = record { a = refl; x = sym (ap (bit_and t.regs.x) (eqb-true (second n) 0 e) ∙ and_zero_r t.regs.x); low = refl; high = refl }
    by false e = record { a = refl; x = refl; low = refl; high = refl }

pub mask_word_word : (g : World) (n : ℕ) (t : State) → IsBytes t → n < 65536 → ax_of (after_lines g (mask_word_code n) t) ≡ bit_and (ax_of t) n
mask_word_word g n t b small =
    let m = masked_word g n t in
    ap (λ v. v + 256 * (after_lines g (mask_word_code n) t).regs.x) m.a ∙ ap (λ v. bit_and t.regs.a (first n) + 256 * v) m.x ∙ bits_of_word ops.BitAnd tt t.regs.a t.regs.x n b.a small

abbrev no_high : List Line
no_high = value Ldy 0 ∷ zero_page Sty sreg ∷ zero_page Sty (sreg + 1) ∷ []

abbrev all_bytes : ℕ → List Line
all_bytes n = value And (first n) ∷ implied Tay ∷ implied Txa ∷ value And (second n) ∷ implied Tax ∷ (mask_high_code n ++ (implied Tya ∷ []))

pub mask_long_scratch : (n : ℕ) → AreScratch (mask_long_code n)
mask_long_scratch n = by (nat_lt n 65536)
  where
    by : (b : Bool) → AreScratch (if b then mask_word_code n ++ no_high else all_bytes n)
    by true = scratch_append (mask_word_code n) no_high (mask_word_scratch n) (omega arith, ((omega arith, omega arith), ((omega arith, omega arith), tt)))
    by false = (omega arith, (tt, (tt, (omega arith, (tt, (omega arith, (omega arith, ((omega arith, omega arith), (omega arith, (omega arith, ((omega arith, omega arith), (tt, tt))))))))))))

low_mask : (m n : ℕ) → n < 65536 → bit_and (m % 65536) n ≡ bit_and m n
low_mask m n small =
    let own : n % 65536 ≡ n = omega (arith, small) in
    let none : n / 65536 ≡ 0 = omega (arith, small) in
    let low : bit_and m n % 65536 ≡ bit_and (m % 65536) n = and_mod m n 16 ∙ ap (bit_and (m % 65536)) own in
    let high : bit_and m n / 65536 ≡ 0 = and_shr m n 16 ∙ ap (bit_and (m / 65536)) none ∙ and_zero_r (m / 65536) in
    omega (arith, low, high)

pub mask_long_word : (g : World) (n : ℕ) (t : State) → IsBytes t → n < 4294967296 → eax_of (after_lines g (mask_long_code n) t) ≡ bit_and (eax_of t) n
mask_long_word g n t b small = by (nat_lt n 65536) refl
  where
    by : (c : Bool) → nat_lt n 65536 ≡ c → eax_of (after_lines g (if c then mask_word_code n ++ no_high else all_bytes n) t) ≡ bit_and (eax_of t) n
    by true e =
        let few : n < 65536 = ltb-true n 65536 e in
        let rest : eax_of t % 65536 ≡ ax_of t = omega (arith, b.a, b.x) in
        ap eax_of (after_append g (mask_word_code n) no_high t) ∙ none (ax_of (after_lines g (mask_word_code n) t)) ∙ mask_word_word g n t b few ∙ ap (λ m. bit_and m n) (sym rest) ∙ low_mask (eax_of t) n few
      where
        none : (m : ℕ) → m + 65536 * (0 + 256 * 0) ≡ m
        none m = omega arith
    by false e = bits_of_long ops.BitAnd tt t.regs.a t.regs.x (t.zp 2) (t.zp 3) n b.a b.x (b.zp 2) small

pub mask_short : (width : Width) (n : ℕ) → length (mask_by_width width n) ≤ 20
mask_short Ax n = by (second n == 0)
  where
    by : (b : Bool) → length (if b then value And (first n) ∷ value Ldx 0 ∷ [] else mask_code n) ≤ 20
    by true = omega arith
    by false = omega arith
mask_short Eax n = by (second n == 0) (nat_lt n 65536)
  where
    by : (b c : Bool) → length (if c then (if b then value And (first n) ∷ value Ldx 0 ∷ [] else mask_code n) ++ no_high else all_bytes n) ≤ 20
    by true true = omega arith
    by false true = omega arith
    by b false = omega arith

-- ---- operators on bits of EAX and a number

pub bits_scratch : (op : BinaryOp) (n : ℕ) → IsBits op → AreScratch (long_mask_code op n)
bits_scratch ops.BitAnd n o = (omega arith, (tt, (tt, (omega arith, (tt, (omega arith, (omega arith, ((omega arith, omega arith), (omega arith, (omega arith, ((omega arith, omega arith), (tt, tt))))))))))))
bits_scratch ops.BitXor n o = (omega arith, (tt, (tt, (omega arith, (tt, (omega arith, (omega arith, ((omega arith, omega arith), (omega arith, (omega arith, ((omega arith, omega arith), (tt, tt))))))))))))
bits_scratch ops.BitOr n o = (omega arith, (tt, (tt, (omega arith, (tt, (omega arith, (omega arith, ((omega arith, omega arith), (omega arith, (omega arith, ((omega arith, omega arith), (tt, tt))))))))))))
bits_scratch _ n o = absurd o

pub bits_word : (g : World) (op : BinaryOp) (n : ℕ) (t : State) → IsBits op → IsBytes t → n < 4294967296 → eax_of (after_lines g (long_mask_code op n) t) ≡ bits_on op (eax_of t) n
bits_word g ops.BitAnd n t o b small = bits_of_long ops.BitAnd tt t.regs.a t.regs.x (t.zp 2) (t.zp 3) n b.a b.x (b.zp 2) small
bits_word g ops.BitXor n t o b small = bits_of_long ops.BitXor tt t.regs.a t.regs.x (t.zp 2) (t.zp 3) n b.a b.x (b.zp 2) small
bits_word g ops.BitOr n t o b small = bits_of_long ops.BitOr tt t.regs.a t.regs.x (t.zp 2) (t.zp 3) n b.a b.x (b.zp 2) small
bits_word g _ n t o b small = absurd o
