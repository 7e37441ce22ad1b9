-- The operators on the primary register of 32 bits.
use Rattle.std.proofs.Common.{◌≡◌, ℕ, ◌+◌, ◌-◌, ◌*◌, ◌/◌, ◌%◌, ◌<◌, Bool, List, [], ◌∷◌, None, refl, ap, ◌∙◌, arith}
use Rattle.std.specs.Prelude.{nat_lt, bit_xor}
use Rattle.c65_mach.specs.Step.{bit}
use Rattle.c65_mach.specs.declared.rows.Op.TheVariants.{Adc, Clc, Eor, Lda, Rts, Sta, Tax, Tay, Txa, Tya}
use Rattle.c65_code.specs.declared.line.Line.{Line}
use Rattle.c65_code.specs.LineState.{write, State, eax_of, IsBytes}
use Rattle.c65_code.specs.Placement.{Placement}
use Rattle.c65_code.specs.RawMachine.{Bounds}
use Rattle.c65_rtl.specs.Assembly.{sreg, implied, value, zero_page}
use Rattle.c65_rtl.proofs.Ways.{leads}
use Rattle.c65_rtl.proofs.SpPieces.{left, xor_ones}
use Rattle.c65_rtl.proofs.UnaryWords.{bit_carry, AreLongBytes, long_bytes_of}

-- four sums of bytes, each with the carry of the one before, are the sum of the numbers
pub four_sums : (p0 p1 p2 p3 s1 s2 s3 : ℕ) → s1 ≡ p1 + p0 / 256 → s2 ≡ p2 + s1 / 256 → s3 ≡ p3 + s2 / 256
    → p0 % 256 + 256 * (s1 % 256) + 65536 * (s2 % 256 + 256 * (s3 % 256)) ≡ (p0 + 256 * p1 + 65536 * p2 + 16777216 * p3) % 4294967296
four_sums p0 p1 p2 p3 s1 s2 s3 e1 e2 e3 = omega arith

abbrev pub negeax_lines : List Line
negeax_lines = implied Clc ∷ value Eor 0xFF ∷ value Adc 1 ∷ implied Tay ∷ implied Txa ∷ value Eor 0xFF ∷ value Adc 0 ∷ implied Tax ∷ zero_page Lda sreg ∷ value Eor 0xFF ∷ value Adc 0 ∷ zero_page Sta sreg ∷ zero_page Lda (sreg + 1) ∷ value Eor 0xFF ∷ value Adc 0 ∷ zero_page Sta (sreg + 1) ∷ implied Tya ∷ implied Rts ∷ []

pub negeax_at : (place : Placement) (bounds : Bounds) (P : State → Type 0) (u : State)
    → ((a x l h y : ℕ) (n v z c : Bool) → a ≡ (bit_xor u.regs.a 255 + 1 + 0) % 256 → x ≡ (bit_xor u.regs.x 255 + 0 + bit (nat_lt 255 (bit_xor u.regs.a 255 + 1 + 0))) % 256 → l ≡ (bit_xor (u.zp 2) 255 + 0 + bit (nat_lt 255 (bit_xor u.regs.x 255 + 0 + bit (nat_lt 255 (bit_xor u.regs.a 255 + 1 + 0))))) % 256 → h ≡ (bit_xor (u.zp 3) 255 + 0 + bit (nat_lt 255 (bit_xor (u.zp 2) 255 + 0 + bit (nat_lt 255 (bit_xor u.regs.x 255 + 0 + bit (nat_lt 255 (bit_xor u.regs.a 255 + 1 + 0))))))) % 256 → P (left u a x y n v z c (write (write u.zp 2 l) 3 h) u.mem))
    → leads place bounds P negeax_lines None (record u { pushed = [] })
unfolding leads
negeax_at place bounds P u follows = follows _ _ _ _ _ _ _ _ _ refl refl refl refl

-- the bytes of what it gives
pub negated_bytes : (t : State) → IsBytes t → (a x l h : ℕ) → a ≡ (bit_xor t.regs.a 255 + 1 + 0) % 256 → x ≡ (bit_xor t.regs.x 255 + 0 + bit (nat_lt 255 (bit_xor t.regs.a 255 + 1 + 0))) % 256
    → l ≡ (bit_xor (t.zp 2) 255 + 0 + bit (nat_lt 255 (bit_xor t.regs.x 255 + 0 + bit (nat_lt 255 (bit_xor t.regs.a 255 + 1 + 0))))) % 256
    → h ≡ (bit_xor (t.zp 3) 255 + 0 + bit (nat_lt 255 (bit_xor (t.zp 2) 255 + 0 + bit (nat_lt 255 (bit_xor t.regs.x 255 + 0 + bit (nat_lt 255 (bit_xor t.regs.a 255 + 1 + 0))))))) % 256
    → AreLongBytes ((4294967296 - eax_of t) % 4294967296) a x l h
negated_bytes t all_bytes a x l h is_a is_x is_l is_h =
    let byte_a = all_bytes.a in
    let byte_x = all_bytes.x in
    let byte_l = all_bytes.zp 2 in
    let byte_h = all_bytes.zp 3 in
    let ones_a = xor_ones t.regs.a byte_a in
    let ones_x = xor_ones t.regs.x byte_x in
    let ones_l = xor_ones (t.zp 2) byte_l in
    let ones_h = xor_ones (t.zp 3) byte_h in
    let b0 : ℕ = bit (nat_lt 255 (bit_xor t.regs.a 255 + 1 + 0)) in
    let c0 : b0 ≡ (bit_xor t.regs.a 255 + 1 + 0) / 256 = bit_carry (bit_xor t.regs.a 255 + 1 + 0) (omega arith) in
    let t1 : (bit_xor t.regs.x 255 + 0 + bit (nat_lt 255 (bit_xor t.regs.a 255 + 1 + 0))) < 512 = omega arith in
    let c1 : bit (nat_lt 255 (bit_xor t.regs.x 255 + 0 + bit (nat_lt 255 (bit_xor t.regs.a 255 + 1 + 0)))) ≡ (bit_xor t.regs.x 255 + 0 + bit (nat_lt 255 (bit_xor t.regs.a 255 + 1 + 0))) / 256 = bit_carry (bit_xor t.regs.x 255 + 0 + bit (nat_lt 255 (bit_xor t.regs.a 255 + 1 + 0))) t1 in
    let t2 : (bit_xor (t.zp 2) 255 + 0 + bit (nat_lt 255 (bit_xor t.regs.x 255 + 0 + bit (nat_lt 255 (bit_xor t.regs.a 255 + 1 + 0))))) < 512 = omega arith in
    let c2 : bit (nat_lt 255 (bit_xor (t.zp 2) 255 + 0 + bit (nat_lt 255 (bit_xor t.regs.x 255 + 0 + bit (nat_lt 255 (bit_xor t.regs.a 255 + 1 + 0)))))) ≡ (bit_xor (t.zp 2) 255 + 0 + bit (nat_lt 255 (bit_xor t.regs.x 255 + 0 + bit (nat_lt 255 (bit_xor t.regs.a 255 + 1 + 0))))) / 256 = bit_carry (bit_xor (t.zp 2) 255 + 0 + bit (nat_lt 255 (bit_xor t.regs.x 255 + 0 + bit (nat_lt 255 (bit_xor t.regs.a 255 + 1 + 0))))) t2 in
    let e1 : (bit_xor t.regs.x 255 + 0 + bit (nat_lt 255 (bit_xor t.regs.a 255 + 1 + 0))) ≡ 255 - t.regs.x + (256 - t.regs.a) / 256 = omega arith in
    let e2 : (bit_xor (t.zp 2) 255 + 0 + bit (nat_lt 255 (bit_xor t.regs.x 255 + 0 + bit (nat_lt 255 (bit_xor t.regs.a 255 + 1 + 0))))) ≡ 255 - t.zp 2 + (bit_xor t.regs.x 255 + 0 + bit (nat_lt 255 (bit_xor t.regs.a 255 + 1 + 0))) / 256 = omega arith in
    let e3 : (bit_xor (t.zp 3) 255 + 0 + bit (nat_lt 255 (bit_xor (t.zp 2) 255 + 0 + bit (nat_lt 255 (bit_xor t.regs.x 255 + 0 + bit (nat_lt 255 (bit_xor t.regs.a 255 + 1 + 0))))))) ≡ 255 - t.zp 3 + (bit_xor (t.zp 2) 255 + 0 + bit (nat_lt 255 (bit_xor t.regs.x 255 + 0 + bit (nat_lt 255 (bit_xor t.regs.a 255 + 1 + 0))))) / 256 = omega arith in
    let all = four_sums (256 - t.regs.a) (255 - t.regs.x) (255 - t.zp 2) (255 - t.zp 3) (bit_xor t.regs.x 255 + 0 + bit (nat_lt 255 (bit_xor t.regs.a 255 + 1 + 0))) (bit_xor (t.zp 2) 255 + 0 + bit (nat_lt 255 (bit_xor t.regs.x 255 + 0 + bit (nat_lt 255 (bit_xor t.regs.a 255 + 1 + 0))))) (bit_xor (t.zp 3) 255 + 0 + bit (nat_lt 255 (bit_xor (t.zp 2) 255 + 0 + bit (nat_lt 255 (bit_xor t.regs.x 255 + 0 + bit (nat_lt 255 (bit_xor t.regs.a 255 + 1 + 0))))))) e1 e2 e3 in
    let is_0 : a ≡ (256 - t.regs.a) % 256 = omega arith in
    let low : a < 256 = omega arith in
    let high : x < 256 = omega arith in
    let sum : a + 256 * x + 65536 * (l + 256 * h) ≡ (256 - t.regs.a + 256 * (255 - t.regs.x) + 65536 * (255 - t.zp 2) + 16777216 * (255 - t.zp 3)) % 4294967296 = omega (arith, all) in
    let number : 256 - t.regs.a + 256 * (255 - t.regs.x) + 65536 * (255 - t.zp 2) + 16777216 * (255 - t.zp 3) ≡ 4294967296 - eax_of t = omega arith in
    let whole : a + 256 * x + 65536 * (l + 256 * h) ≡ (4294967296 - eax_of t) % 4294967296 = sum ∙ ap (λ (k : ℕ). k % 4294967296) number in
    long_bytes_of _ a x l h low high whole
