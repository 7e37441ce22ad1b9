-- The rounds of the shifts: what the lines make of the bytes, and that this is the number's next.
use Rattle.std.proofs.Common.{◌≡◌, ℕ, ◌+◌, ◌*◌, ◌/◌, ◌%◌, ◌<◌, ◌≤◌, Bool, true, false, List, ◌∷◌, refl, ap, subst, ◌∙◌, arith}
use Rattle.std.specs.Prelude.{◌==◌, nat_lt}
use Rattle.c65_mach.specs.Step.{bit}
use Rattle.c65_mach.specs.declared.rows.Op.TheVariants.{Asl, Bne, Clc, Cmp, Dex, Rol, Ror}
use Rattle.c65_code.specs.declared.routine.Routine.TheVariants as routines
use Rattle.c65_code.specs.declared.routine.TosOp.TheVariants as tos
use Rattle.c65_code.specs.declared.routine.Width.{Width}
use Rattle.c65_code.specs.declared.routine.Width.TheVariants.{Ax, Eax}
use Rattle.c65_code.specs.declared.line.Line.{Line}
use Rattle.c65_code.specs.declared.line.Line.TheVariants.{Label}
use Rattle.c65_code.specs.LineState.{Bytes, write}
use Rattle.c65_code.specs.Numbers.{words_of, shifted_right}
use Rattle.c65_code.specs.RawMachine.{RawSetting, MeetsRow}
use Rattle.c65_rtl.specs.Assembly.{tmp1, tmp2, tmp3, implied, on_a, value, zero_page, branch}
use Rattle.c65_rtl.specs.Routines.{lines_of}
use Rattle.c65_rtl.proofs.Rounds.{leads_round}
use Rattle.c65_rtl.proofs.Meeting.{eq_true, eq_false, not_true, not_false}
use Rattle.c65_rtl.proofs.UnaryWords.{bit_odd, bit_sign, bit_top}
use Rattle.c65_rtl.proofs.Shifting.{down, down_step, up, up_step, half, signed_step, signed_start}
use Rattle.c65_rtl.proofs.ShiftPieces.{places, IsHeld, write_among, head_on, exit_lines}
use Rattle.c65_rtl.proofs.ShiftLoop.{RoundLeads, RoundSkips, Steps, IsLight, shift_meets}

-- once more until the count is used up
abbrev again_on : List Line → List Line
again_on rest = implied Dex ∷ branch Bne 2 ∷ Label 3 ∷ rest

-- one bit up
abbrev up_on : Width → List Line → List Line
up_on Ax rest = zero_page Asl tmp1 ∷ on_a Rol ∷ again_on rest
up_on Eax rest = zero_page Asl tmp1 ∷ zero_page Rol tmp2 ∷ zero_page Rol tmp3 ∷ on_a Rol ∷ again_on rest

abbrev up_zp : Width → Bytes → ℕ → Bytes
up_zp Ax zp a = write zp 16 ((2 * zp 16) % 256)
up_zp Eax zp a = write (write (write zp 16 ((2 * zp 16) % 256)) 17 ((2 * zp 17) % 256 + bit (nat_lt 127 (zp 16)))) 18 ((2 * zp 18) % 256 + bit (nat_lt 127 (zp 17)))

abbrev up_a : Width → Bytes → ℕ → ℕ
up_a Ax zp a = (2 * a) % 256 + bit (nat_lt 127 (zp 16))
up_a Eax zp a = (2 * a) % 256 + bit (nat_lt 127 (zp 18))

up_skips : (width : Width) → RoundSkips (up_on width)
unfolding leads_round
up_skips Ax place bounds P B rest u h = h
up_skips Eax place bounds P B rest u h = h

up_leads : (width : Width) → RoundLeads (up_on width) (up_zp width) (up_a width)
unfolding leads_round
up_leads Ax place bounds P B rest u again out = elim [ true ↦ λ e. again _ _ (eq_false ((u.regs.x + 255) % 256) 0 (not_true _ e)) | false ↦ λ e. out _ _ (eq_true ((u.regs.x + 255) % 256) 0 (not_false _ e)) ]
up_leads Eax place bounds P B rest u again out = elim [ true ↦ λ e. again _ _ (eq_false ((u.regs.x + 255) % 256) 0 (not_true _ e)) | false ↦ λ e. out _ _ (eq_true ((u.regs.x + 255) % 256) 0 (not_false _ e)) ]

up_steps : (width : Width) → Steps width (up_zp width) (up_a width) (up width)
up_steps Ax v d old zp a word few h =
    let low = h.low in
    let high = h.high in
    let c0 : bit (nat_lt 127 (zp 16)) ≡ zp 16 / 128 = bit_sign (zp 16) low in
    let sum : (2 * zp 16) % 256 + 256 * up_a Ax zp a ≡ (2 * (zp 16 + 256 * a)) % 65536 = omega arith in
    record {
      rest = λ i out. write_among (places Ax) zp 16 _ i refl out ∙ h.rest i out;
      low = omega arith;
      mid = h.mid;
      third = h.third;
      high = omega arith;
      value = sum ∙ (ap (λ (k : ℕ). (2 * k) % 65536) h.value ∙ up_step Ax v d);
    }
up_steps Eax v d old zp a word few h =
    let low = h.low in
    let mid = h.mid in
    let third = h.third in
    let high = h.high in
    let c0 : bit (nat_lt 127 (zp 16)) ≡ zp 16 / 128 = bit_sign (zp 16) low in
    let c1 : bit (nat_lt 127 (zp 17)) ≡ zp 17 / 128 = bit_sign (zp 17) mid in
    let c2 : bit (nat_lt 127 (zp 18)) ≡ zp 18 / 128 = bit_sign (zp 18) third in
    let b0 : ℕ = (2 * zp 16) % 256 in
    let b1 : ℕ = (2 * zp 17) % 256 + bit (nat_lt 127 (zp 16)) in
    let b2 : ℕ = (2 * zp 18) % 256 + bit (nat_lt 127 (zp 17)) in
    let sum : b0 + 256 * b1 + 65536 * b2 + 16777216 * up_a Eax zp a ≡ (2 * (zp 16 + 256 * zp 17 + 65536 * zp 18 + 16777216 * a)) % 4294967296 = omega arith in
    record {
      rest = λ i out. write_among (places Eax) (write (write zp 16 b0) 17 b1) 18 b2 i refl out ∙ (write_among (places Eax) (write zp 16 b0) 17 b1 i refl out ∙ (write_among (places Eax) zp 16 b0 i refl out ∙ h.rest i out));
      low = omega arith;
      mid = omega arith;
      third = omega arith;
      high = omega arith;
      value = sum ∙ (ap (λ (k : ℕ). (2 * k) % 4294967296) h.value ∙ up_step Eax v d);
    }

-- one bit down; the line before sets C to what comes in from above
abbrev down_on : Width → Line → List Line → List Line
down_on Ax carry rest = carry ∷ on_a Ror ∷ zero_page Ror tmp1 ∷ again_on rest
down_on Eax carry rest = carry ∷ on_a Ror ∷ zero_page Ror tmp3 ∷ zero_page Ror tmp2 ∷ zero_page Ror tmp1 ∷ again_on rest

abbrev down_zp : Width → Bytes → ℕ → Bytes
down_zp Ax zp a = write zp 16 (zp 16 / 2 + 128 * bit (a % 2 == 1))
down_zp Eax zp a = write (write (write zp 18 (zp 18 / 2 + 128 * bit (a % 2 == 1))) 17 (zp 17 / 2 + 128 * bit (zp 18 % 2 == 1))) 16 (zp 16 / 2 + 128 * bit (zp 17 % 2 == 1))

abbrev down_a : (ℕ → Bool) → Bytes → ℕ → ℕ
down_a top zp a = a / 2 + 128 * bit (top a)

shr_skips : (width : Width) → RoundSkips (down_on width (implied Clc))
unfolding leads_round
shr_skips Ax place bounds P B rest u h = h
shr_skips Eax place bounds P B rest u h = h

shr_leads : (width : Width) → RoundLeads (down_on width (implied Clc)) (down_zp width) (down_a (λ a. false))
unfolding leads_round
shr_leads Ax place bounds P B rest u again out = elim [ true ↦ λ e. again _ _ (eq_false ((u.regs.x + 255) % 256) 0 (not_true _ e)) | false ↦ λ e. out _ _ (eq_true ((u.regs.x + 255) % 256) 0 (not_false _ e)) ]
shr_leads Eax place bounds P B rest u again out = elim [ true ↦ λ e. again _ _ (eq_false ((u.regs.x + 255) % 256) 0 (not_true _ e)) | false ↦ λ e. out _ _ (eq_true ((u.regs.x + 255) % 256) 0 (not_false _ e)) ]

asr_skips : (width : Width) → RoundSkips (down_on width (value Cmp 0x80))
unfolding leads_round
asr_skips Ax place bounds P B rest u h = h
asr_skips Eax place bounds P B rest u h = h

asr_leads : (width : Width) → RoundLeads (down_on width (value Cmp 0x80)) (down_zp width) (down_a (λ a. nat_lt 128 (a + 1)))
unfolding leads_round
asr_leads Ax place bounds P B rest u again out = elim [ true ↦ λ e. again _ _ (eq_false ((u.regs.x + 255) % 256) 0 (not_true _ e)) | false ↦ λ e. out _ _ (eq_true ((u.regs.x + 255) % 256) 0 (not_false _ e)) ]
asr_leads Eax place bounds P B rest u again out = elim [ true ↦ λ e. again _ _ (eq_false ((u.regs.x + 255) % 256) 0 (not_true _ e)) | false ↦ λ e. out _ _ (eq_true ((u.regs.x + 255) % 256) 0 (not_false _ e)) ]

bit_small : (b : Bool) → bit b ≤ 1
bit_small true = omega arith
bit_small false = omega arith

-- the half of a number with a top bit
abbrev lowered : Width → ℕ → ℕ → ℕ
lowered Ax top k = k / 2 + 32768 * top
lowered Eax top k = k / 2 + 2147483648 * top

lowered_held : (width : Width) (top : ℕ → Bool) (v : ℕ) (old zp : Bytes) (a : ℕ) → IsHeld width v old zp a → IsHeld width (lowered width (bit (top a)) v) old (down_zp width zp a) (down_a top zp a)
lowered_held Ax top v old zp a h =
    let low = h.low in
    let high = h.high in
    let value = h.value in
    let c0 : bit (a % 2 == 1) ≡ a % 2 = bit_odd a in
    let t = bit_small (top a) in
    record {
      rest = λ i out. write_among (places Ax) zp 16 _ i refl out ∙ h.rest i out;
      low = omega arith;
      mid = h.mid;
      third = h.third;
      high = omega arith;
      value = omega arith;
    }
lowered_held Eax top v old zp a h =
    let low = h.low in
    let mid = h.mid in
    let third = h.third in
    let high = h.high in
    let value = h.value in
    let c0 : bit (a % 2 == 1) ≡ a % 2 = bit_odd a in
    let c1 : bit (zp 18 % 2 == 1) ≡ zp 18 % 2 = bit_odd (zp 18) in
    let c2 : bit (zp 17 % 2 == 1) ≡ zp 17 % 2 = bit_odd (zp 17) in
    let t = bit_small (top a) in
    let b2 : ℕ = zp 18 / 2 + 128 * bit (a % 2 == 1) in
    let b1 : ℕ = zp 17 / 2 + 128 * bit (zp 18 % 2 == 1) in
    let b0 : ℕ = zp 16 / 2 + 128 * bit (zp 17 % 2 == 1) in
    record {
      rest = λ i out. write_among (places Eax) (write (write zp 18 b2) 17 b1) 16 b0 i refl out ∙ (write_among (places Eax) (write zp 18 b2) 17 b1 i refl out ∙ (write_among (places Eax) zp 18 b2 i refl out ∙ h.rest i out));
      low = omega arith;
      mid = omega arith;
      third = omega arith;
      high = omega arith;
      value = omega arith;
    }

shr_steps : (width : Width) → Steps width (down_zp width) (down_a (λ a. false)) down
shr_steps Ax v d old zp a word few h = let none : lowered Ax 0 (down v d) ≡ down v d / 2 = omega arith in subst (λ (k : ℕ). IsHeld Ax k old (down_zp Ax zp a) (down_a (λ a. false) zp a)) (none ∙ down_step v d) (lowered_held Ax (λ a. false) (down v d) old zp a h)
shr_steps Eax v d old zp a word few h = let none : lowered Eax 0 (down v d) ≡ down v d / 2 = omega arith in subst (λ (k : ℕ). IsHeld Eax k old (down_zp Eax zp a) (down_a (λ a. false) zp a)) (none ∙ down_step v d) (lowered_held Eax (λ a. false) (down v d) old zp a h)

-- the top bit is the sign
top_is : (width : Width) (v : ℕ) (old zp : Bytes) (a : ℕ) → IsHeld width v old zp a → lowered width (bit (nat_lt 128 (a + 1))) v ≡ half width v
top_is Ax v old zp a h =
    let low = h.low in
    let high = h.high in
    let value = h.value in
    let top : bit (nat_lt 128 (a + 1)) ≡ a / 128 = bit_top a high in
    omega arith
top_is Eax v old zp a h =
    let low = h.low in
    let mid = h.mid in
    let third = h.third in
    let high = h.high in
    let value = h.value in
    let top : bit (nat_lt 128 (a + 1)) ≡ a / 128 = bit_top a high in
    omega arith

asr_steps : (width : Width) → Steps width (down_zp width) (down_a (λ a. nat_lt 128 (a + 1))) (shifted_right width)
asr_steps width v d old zp a word few h =
    subst (λ (k : ℕ). IsHeld width k old (down_zp width zp a) (down_a (λ a. nat_lt 128 (a + 1)) zp a)) (top_is width (shifted_right width v d) old zp a h ∙ signed_step width v d word few)
    (lowered_held width (λ a. nat_lt 128 (a + 1)) (shifted_right width v d) old zp a h)

shl_starts : (width : Width) (v : ℕ) → v < words_of width → v ≡ up width v 0
shl_starts Ax v word = omega arith
shl_starts Eax v word = omega arith

shr_starts : (v : ℕ) → v ≡ down v 0
shr_starts v = omega arith

shl_light : (width : Width) → IsLight width (up_on width)
shl_light Ax = record { last = omega arith; more = λ m n le. omega arith; whole = omega arith }
shl_light Eax = record { last = omega arith; more = λ m n le. omega arith; whole = omega arith }

shr_light : (width : Width) → IsLight width (down_on width (implied Clc))
shr_light Ax = record { last = omega arith; more = λ m n le. omega arith; whole = omega arith }
shr_light Eax = record { last = omega arith; more = λ m n le. omega arith; whole = omega arith }

asr_light : (width : Width) → IsLight width (down_on width (value Cmp 0x80))
asr_light Ax = record { last = omega arith; more = λ m n le. omega arith; whole = omega arith }
asr_light Eax = record { last = omega arith; more = λ m n le. omega arith; whole = omega arith }

shl_lines : (width : Width) → lines_of (routines.Tos tos.Shl width) ≡ head_on width (up_on width (exit_lines width))
shl_lines Ax = refl
shl_lines Eax = refl

shr_lines : (width : Width) → lines_of (routines.Tos tos.Shr width) ≡ head_on width (down_on width (implied Clc) (exit_lines width))
shr_lines Ax = refl
shr_lines Eax = refl

asr_lines : (width : Width) → lines_of (routines.Tos tos.Asr width) ≡ head_on width (down_on width (value Cmp 0x80) (exit_lines width))
asr_lines Ax = refl
asr_lines Eax = refl

pub shl : (s : RawSetting) (width : Width) → s.lines (s.routine (routines.Tos tos.Shl width)) ≡ lines_of (routines.Tos tos.Shl width) → MeetsRow s (routines.Tos tos.Shl width)
shl s width has = shift_meets s tos.Shl width (up_on width) (up_zp width) (up_a width) (up width) (up_skips width) (up_leads width) (shl_starts width) (up_steps width) (shl_light width) refl (λ a b. refl) refl (has ∙ shl_lines width)

pub shr : (s : RawSetting) (width : Width) → s.lines (s.routine (routines.Tos tos.Shr width)) ≡ lines_of (routines.Tos tos.Shr width) → MeetsRow s (routines.Tos tos.Shr width)
shr s width has = shift_meets s tos.Shr width (down_on width (implied Clc)) (down_zp width) (down_a (λ a. false)) down (shr_skips width) (shr_leads width) (λ v word. shr_starts v) (shr_steps width) (shr_light width) refl (λ a b. refl) refl (has ∙ shr_lines width)

pub asr : (s : RawSetting) (width : Width) → s.lines (s.routine (routines.Tos tos.Asr width)) ≡ lines_of (routines.Tos tos.Asr width) → MeetsRow s (routines.Tos tos.Asr width)
asr s width has = shift_meets s tos.Asr width (down_on width (value Cmp 0x80)) (down_zp width) (down_a (λ a. nat_lt 128 (a + 1))) (shifted_right width) (asr_skips width) (asr_leads width) (λ v word. signed_start width v) (asr_steps width) (asr_light width) refl (λ a b. refl) refl (has ∙ asr_lines width)
