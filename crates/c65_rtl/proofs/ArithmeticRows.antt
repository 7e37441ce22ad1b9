-- The operators on TOS that are no orders, no shifts and no divisions.
use Rattle.std.proofs.Common.{◌≡◌, ℕ, ◌+◌, ◌-◌, ◌%◌, ◌<◌, IsTrue, List, [], ◌∷◌, Option, Some, None, refl, sym, subst, ◌∙◌, arith}
use Rattle.c65_mach.specs.State.{Regs}
use Rattle.c65_mach.specs.declared.rows.Op.{Op}
use Rattle.c65_mach.specs.declared.rows.Op.TheVariants.{Lda}
use Rattle.c65_code.specs.declared.routine.Routine.TheVariants as routines
use Rattle.c65_code.specs.declared.routine.TosOp.{TosOp}
use Rattle.c65_code.specs.declared.routine.TosOp.TheVariants as tos
use Rattle.c65_code.specs.declared.routine.Width.{Width}
use Rattle.c65_code.specs.declared.routine.Width.TheVariants.{Ax, Eax}
use Rattle.c65_code.specs.declared.line.Line.{Line}
use Rattle.c65_code.specs.LineState.{Place, Bytes, word_at, State, sp_of, ax_of, eax_of}
use Rattle.c65_code.specs.Numbers.{result_width, tos_result}
use Rattle.c65_code.specs.Placement.{Placement}
use Rattle.c65_code.specs.Rows.{long_at, written, tos_cost}
use Rattle.c65_code.specs.RawMachine.{RawSetting, Bounds, called, MeetsRow}
use Rattle.c65_rtl.specs.Assembly.{tmp1, zero_page}
use Rattle.c65_rtl.specs.Routines.{lines_of}
use Rattle.c65_rtl.specs.Short.{is_straight_operator}
use Rattle.c65_rtl.proofs.Ways.{leads}
use Rattle.c65_rtl.proofs.ToMemory.{held_at}
use Rattle.c65_rtl.proofs.UnaryWords.{AreWordBytes, AreLongBytes}
use Rattle.c65_rtl.proofs.Sums.{Operand, operand, plus_0, plus_1, plus_2, plus_3, minus_0, minus_1, minus_2, minus_3, add_word, add_long, sub_word, sub_long}
use Rattle.c65_rtl.proofs.Bits.{IsBitwise, bits_word, bits_long}
use Rattle.c65_rtl.proofs.OnTos.{drop_lines, drop_at, IsResultIf, GivesResult, Begins, is_allowed, LeadsToResult, operator_meets}
use Rattle.c65_rtl.proofs.Arithmetic.{released, add_on, add_state, add_at, add_upper_on, add_upper_at, sub_on, sub_state, sub_at, sub_upper_on, sub_upper_at, bits_on, bits_state, bits_at, bits_upper_on, bits_upper_at}

-- the low byte to A, and TOS is dropped
abbrev release_lines : Width → List Line
release_lines width = zero_page Lda tmp1 ∷ drop_lines width

as_before : (width : Width) (result : Option ℕ) (a x : ℕ) (old new : Bytes) → new 2 ≡ old 2 → new 3 ≡ old 3 → IsResultIf width result a x old → IsResultIf width result a x new
as_before width None a x old new low high h = tt
as_before Ax (Some v) a x old new low high h = h
as_before Eax (Some v) a x old new low high h = record { a = h.a; x = h.x; sreg = let upper = h.sreg in omega arith }

release_at : (op : TosOp) (width gives : Width) (result : Option ℕ) (place : Placement) (bounds : Bounds) (P : State → Type 0) (back : Place) (t : State) (r : Regs) (ws : List (ℕ × ℕ)) → Begins width place bounds t → IsTrue (is_allowed op width ws t)
    → written t.zp ws 0 ≡ t.zp 0 → written t.zp ws 1 ≡ t.zp 1 → GivesResult op width gives result back t P → IsResultIf gives result (written t.zp ws 16) r.x (written t.zp ws)
    → leads place bounds P (release_lines width) None (record (called back t) { regs = r; zp = written t.zp ws })
release_at op width gives result place bounds P back t r ws begin allowed z0 z1 ends h =
    let low = begin.bytes.zp 0 in
    let high = begin.bytes.zp 1 in
    let room = begin.fits in
    let u : State = record (called back t) { regs = r; zp = written t.zp ws } in
    held_at place bounds P (drop_lines width) u (λ n w.
    drop_at width place bounds P (released u n w) (omega arith) (omega arith) (omega arith) (λ y n v z c zp moved.
    let at = moved.sp in
    ends (written t.zp ws 16) r.x y n v z c zp ws allowed moved.rest (omega arith) (as_before gives result (written t.zp ws 16) r.x (written t.zp ws) zp (moved.rest 2 (omega arith)) (moved.rest 3 (omega arith)) h)))

abbrev add_lines : Width → List Line
add_lines Ax = add_on (release_lines Ax)
add_lines Eax = add_on (add_upper_on (release_lines Eax))

add_leads : (width : Width) → LeadsToResult tos.Add width (add_lines width)
add_leads Ax place bounds P back t begin ends =
    let near = begin.near in
    let fits = begin.fits in
    let b = begin.bytes in
    let k0 : 0 < 2 = omega arith in
    let k1 : 1 < 2 = omega arith in
    add_at place bounds P (release_lines Ax) (sp_of t) (called back t) (omega arith) (omega arith) (near.first k0) (near.reach 1 k1) (λ m0 m1 n v z e0 e1.
    let m : Operand t.mem (sp_of t) m0 m1 (t.mem (sp_of t + 2)) (t.mem (sp_of t + 3)) = operand t.mem (sp_of t) m0 m1 (t.mem (sp_of t + 2)) (t.mem (sp_of t + 3)) b.mem e0 e1 refl refl in
    release_at tos.Add Ax Ax (Some ((word_at t.mem (sp_of t) + ax_of t) % 65536)) place bounds P back t _ ((16, plus_0 t.regs.a m0 % 256) ∷ []) begin refl refl refl ends
    (subst (λ (k : ℕ). AreWordBytes ((k + ax_of t) % 65536) (plus_0 t.regs.a m0 % 256) (plus_1 t.regs.a t.regs.x m0 m1 % 256)) m.word (add_word t.regs.a t.regs.x m0 m1 b.a b.x m.b0 m.b1)))
add_leads Eax place bounds P back t begin ends =
    let near = begin.near in
    let fits = begin.fits in
    let b = begin.bytes in
    let k0 : 0 < 4 = omega arith in
    let k1 : 1 < 4 = omega arith in
    let k2 : 2 < 4 = omega arith in
    let k3 : 3 < 4 = omega arith in
    add_at place bounds P (add_upper_on (release_lines Eax)) (sp_of t) (called back t) (omega arith) (omega arith) (near.first k0) (near.reach 1 k1) (λ m0 m1 n1 v1 z1 e0 e1.
    add_upper_at place bounds P (release_lines Eax) (sp_of t) (add_state (called back t) m0 m1 n1 v1 z1) (omega arith) (omega arith) (near.reach 2 k2) (near.reach 3 k3) (λ m2 m3 n v z e2 e3.
    let m : Operand t.mem (sp_of t) m0 m1 m2 m3 = operand t.mem (sp_of t) m0 m1 m2 m3 b.mem e0 e1 e2 e3 in
    let p2 : ℕ = plus_2 t.regs.a t.regs.x (t.zp 2) m0 m1 m2 % 256 in
    let p3 : ℕ = plus_3 t.regs.a t.regs.x (t.zp 2) (t.zp 3) m0 m1 m2 m3 % 256 in
    release_at tos.Add Eax Eax (Some ((long_at t.mem (sp_of t) + eax_of t) % 4294967296)) place bounds P back t _ ((16, plus_0 t.regs.a m0 % 256) ∷ (2, p2) ∷ (3, p3) ∷ []) begin refl refl refl ends
    (subst (λ (k : ℕ). AreLongBytes ((k + eax_of t) % 4294967296) (plus_0 t.regs.a m0 % 256) (plus_1 t.regs.a t.regs.x m0 m1 % 256) p2 p3) m.long
    (add_long t.regs.a t.regs.x (t.zp 2) (t.zp 3) m0 m1 m2 m3 b.a b.x (b.zp 2) (b.zp 3) m.b0 m.b1 m.b2 m.b3))))

pub add : (s : RawSetting) (width : Width) → add_lines width ≡ lines_of (routines.Tos tos.Add width) → s.lines (s.routine (routines.Tos tos.Add width)) ≡ lines_of (routines.Tos tos.Add width) → MeetsRow s (routines.Tos tos.Add width)
add s width is has = operator_meets s tos.Add width (add_lines width) refl refl is (has ∙ sym is) (add_leads width)

abbrev sub_lines : Width → List Line
sub_lines Ax = sub_on (release_lines Ax)
sub_lines Eax = sub_on (sub_upper_on (release_lines Eax))

sub_leads : (width : Width) → LeadsToResult tos.Sub width (sub_lines width)
sub_leads Ax place bounds P back t begin ends =
    let near = begin.near in
    let fits = begin.fits in
    let b = begin.bytes in
    let k0 : 0 < 2 = omega arith in
    let k1 : 1 < 2 = omega arith in
    sub_at place bounds P (release_lines Ax) (sp_of t) (called back t) (omega arith) (omega arith) (near.first k0) (near.reach 1 k1) (λ m0 m1 n v z e0 e1.
    let m : Operand t.mem (sp_of t) m0 m1 (t.mem (sp_of t + 2)) (t.mem (sp_of t + 3)) = operand t.mem (sp_of t) m0 m1 (t.mem (sp_of t + 2)) (t.mem (sp_of t + 3)) b.mem e0 e1 refl refl in
    release_at tos.Sub Ax Ax (Some ((word_at t.mem (sp_of t) + 65536 - ax_of t) % 65536)) place bounds P back t _ ((16, t.regs.a) ∷ (17, t.regs.x) ∷ (16, minus_0 t.regs.a m0 % 256) ∷ []) begin refl refl refl ends
    (subst (λ (k : ℕ). AreWordBytes ((k + 65536 - ax_of t) % 65536) (minus_0 t.regs.a m0 % 256) (minus_1 t.regs.a t.regs.x m0 m1 % 256)) m.word (sub_word t.regs.a t.regs.x m0 m1 b.a b.x m.b0 m.b1)))
sub_leads Eax place bounds P back t begin ends =
    let near = begin.near in
    let fits = begin.fits in
    let b = begin.bytes in
    let k0 : 0 < 4 = omega arith in
    let k1 : 1 < 4 = omega arith in
    let k2 : 2 < 4 = omega arith in
    let k3 : 3 < 4 = omega arith in
    sub_at place bounds P (sub_upper_on (release_lines Eax)) (sp_of t) (called back t) (omega arith) (omega arith) (near.first k0) (near.reach 1 k1) (λ m0 m1 n1 v1 z1 e0 e1.
    sub_upper_at place bounds P (release_lines Eax) (sp_of t) (sub_state (called back t) m0 m1 n1 v1 z1) (omega arith) (omega arith) (near.reach 2 k2) (near.reach 3 k3) (λ m2 m3 n v z e2 e3.
    let m : Operand t.mem (sp_of t) m0 m1 m2 m3 = operand t.mem (sp_of t) m0 m1 m2 m3 b.mem e0 e1 e2 e3 in
    let p2 : ℕ = minus_2 t.regs.a t.regs.x (t.zp 2) m0 m1 m2 % 256 in
    let p3 : ℕ = minus_3 t.regs.a t.regs.x (t.zp 2) (t.zp 3) m0 m1 m2 m3 % 256 in
    release_at tos.Sub Eax Eax (Some ((long_at t.mem (sp_of t) + 4294967296 - eax_of t) % 4294967296)) place bounds P back t _ ((16, t.regs.a) ∷ (17, t.regs.x) ∷ (16, minus_0 t.regs.a m0 % 256) ∷ (2, p2) ∷ (3, p3) ∷ []) begin refl refl refl ends
    (subst (λ (k : ℕ). AreLongBytes ((k + 4294967296 - eax_of t) % 4294967296) (minus_0 t.regs.a m0 % 256) (minus_1 t.regs.a t.regs.x m0 m1 % 256) p2 p3) m.long
    (sub_long t.regs.a t.regs.x (t.zp 2) (t.zp 3) m0 m1 m2 m3 b.a b.x (b.zp 2) (b.zp 3) m.b0 m.b1 m.b2 m.b3))))

pub sub : (s : RawSetting) (width : Width) → sub_lines width ≡ lines_of (routines.Tos tos.Sub width) → s.lines (s.routine (routines.Tos tos.Sub width)) ≡ lines_of (routines.Tos tos.Sub width) → MeetsRow s (routines.Tos tos.Sub width)
sub s width is has = operator_meets s tos.Sub width (sub_lines width) refl refl is (has ∙ sym is) (sub_leads width)

abbrev bits_lines : Op → Width → List Line
bits_lines code Ax = bits_on code (release_lines Ax)
bits_lines code Eax = bits_on code (bits_upper_on code (release_lines Eax))

-- what gives such a result for each width
abbrev IsBitsResult : TosOp → (ℕ → ℕ → ℕ) → Width → Type 0
IsBitsResult op f width = (result_width op width ≡ width) × ((a b : ℕ) → tos_result op width a b ≡ Some (f a b))

given : (op : TosOp) (f : ℕ → ℕ → ℕ) (width : Width) (back : Place) (t : State) (P : State → Type 0) (a b : ℕ) → IsBitsResult op f width → GivesResult op width (result_width op width) (tos_result op width a b) back t P → GivesResult op width width (Some (f a b)) back t P
given op f width back t P a b is ends = subst (λ (w : Width). GivesResult op width w (Some (f a b)) back t P) is.0 (subst (λ (r : Option ℕ). GivesResult op width (result_width op width) r back t P) (is.1 a b) ends)

bits_leads : (op : TosOp) (code : Op) (f : ℕ → ℕ → ℕ) → IsBitwise code f → (width : Width) → IsBitsResult op f width → LeadsToResult op width (bits_lines code width)
bits_leads op code f bits Ax is place bounds P back t begin ends =
    let near = begin.near in
    let fits = begin.fits in
    let b = begin.bytes in
    let k0 : 0 < 2 = omega arith in
    let k1 : 1 < 2 = omega arith in
    bits_at code f bits place bounds P (release_lines Ax) (sp_of t) (called back t) (omega arith) (omega arith) (near.first k0) (near.reach 1 k1) (λ m0 m1 n v z e0 e1.
    let m : Operand t.mem (sp_of t) m0 m1 (t.mem (sp_of t + 2)) (t.mem (sp_of t + 3)) = operand t.mem (sp_of t) m0 m1 (t.mem (sp_of t + 2)) (t.mem (sp_of t + 3)) b.mem e0 e1 refl refl in
    release_at op Ax Ax (Some (f (word_at t.mem (sp_of t)) (ax_of t))) place bounds P back t _ ((16, f t.regs.a m0) ∷ []) begin refl refl refl (given op f Ax back t P (word_at t.mem (sp_of t)) (ax_of t) is ends)
    (subst (λ (k : ℕ). AreWordBytes (f k (ax_of t)) (f t.regs.a m0) (f t.regs.x m1)) m.word (bits_word code f bits t.regs.a t.regs.x m0 m1 b.a b.x m.b0 m.b1)))
bits_leads op code f bits Eax is place bounds P back t begin ends =
    let near = begin.near in
    let fits = begin.fits in
    let b = begin.bytes in
    let k0 : 0 < 4 = omega arith in
    let k1 : 1 < 4 = omega arith in
    let k2 : 2 < 4 = omega arith in
    let k3 : 3 < 4 = omega arith in
    bits_at code f bits place bounds P (bits_upper_on code (release_lines Eax)) (sp_of t) (called back t) (omega arith) (omega arith) (near.first k0) (near.reach 1 k1) (λ m0 m1 n1 v1 z1 e0 e1.
    bits_upper_at code f bits place bounds P (release_lines Eax) (sp_of t) (bits_state f (called back t) m0 m1 n1 v1 z1) (omega arith) (omega arith) (near.reach 2 k2) (near.reach 3 k3) (λ m2 m3 n v z e2 e3.
    let m : Operand t.mem (sp_of t) m0 m1 m2 m3 = operand t.mem (sp_of t) m0 m1 m2 m3 b.mem e0 e1 e2 e3 in
    release_at op Eax Eax (Some (f (long_at t.mem (sp_of t)) (eax_of t))) place bounds P back t _ ((16, f t.regs.a m0) ∷ (2, f (t.zp 2) m2) ∷ (3, f (t.zp 3) m3) ∷ []) begin refl refl refl (given op f Eax back t P (long_at t.mem (sp_of t)) (eax_of t) is ends)
    (subst (λ (k : ℕ). AreLongBytes (f k (eax_of t)) (f t.regs.a m0) (f t.regs.x m1) (f (t.zp 2) m2) (f (t.zp 3) m3)) m.long
    (bits_long code f bits t.regs.a t.regs.x (t.zp 2) (t.zp 3) m0 m1 m2 m3 b.a b.x (b.zp 2) (b.zp 3) m.b0 m.b1 m.b2 m.b3))))

pub bitwise : (s : RawSetting) (op : TosOp) (code : Op) (f : ℕ → ℕ → ℕ) → IsBitwise code f → (width : Width) → IsBitsResult op f width → IsTrue (is_straight_operator op) → tos_cost op ≡ 256 → bits_lines code width ≡ lines_of (routines.Tos op width)
    → s.lines (s.routine (routines.Tos op width)) ≡ lines_of (routines.Tos op width) → MeetsRow s (routines.Tos op width)
bitwise s op code f bits width result straight dear is has = operator_meets s op width (bits_lines code width) straight dear is (has ∙ sym is) (bits_leads op code f bits width result)
