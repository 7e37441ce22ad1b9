-- The pieces of lines that the shifts of both widths share, and the number that they turn.
use Rattle.std.proofs.Common.{◌≡◌, ◌≢◌, ℕ, ◌+◌, ◌-◌, ◌*◌, ◌%◌, ◌<◌, ◌⊎◌, inl, inr, Bool, true, false, List, [], ◌∷◌, Some, None, IsTrue, nat_eq, refl, sym, ap, ◌∙◌, arith}
use Rattle.std.specs.Prelude.{bit_and}
use Rattle.std.proofs.lemmas.Nat.{and_mask}
use Rattle.std.proofs.lemmas.Bool.Decides.{eqb_tells}
use Rattle.c65_mach.specs.declared.rows.Op.TheVariants.{And, Beq, Cpx, Iny, Lda, Ldx, Ldy, Sta, Tax}
use Rattle.c65_mach.specs.State.{Regs}
use Rattle.c65_code.specs.declared.line.Line.{Line}
use Rattle.c65_code.specs.declared.line.Line.TheVariants.{Label}
use Rattle.c65_code.specs.declared.routine.TosOp.{TosOp}
use Rattle.c65_code.specs.declared.routine.Width.{Width}
use Rattle.c65_code.specs.declared.routine.Width.TheVariants.{Ax, Eax}
use Rattle.c65_code.specs.LineState.{Place, Bytes, write, State, sp_of}
use Rattle.c65_code.specs.Numbers.{bits_of}
use Rattle.c65_code.specs.Placement.{Placement}
use Rattle.c65_code.specs.Rows.{number_at, written}
use Rattle.c65_code.specs.RawMachine.{Bounds, called}
use Rattle.c65_code.specs.Segments.{is_among}
use Rattle.c65_rtl.specs.Assembly.{sp, sreg, tmp1, tmp2, tmp3, implied, value, zero_page, by_y, branch}
use Rattle.c65_rtl.proofs.Ways.{leads, or_none, or_parts}
use Rattle.c65_rtl.proofs.Rounds.{leads_round}
use Rattle.c65_rtl.proofs.Meeting.{eq_true, eq_false, write_other}
use Rattle.c65_rtl.proofs.Sums.{Operand, operand}
use Rattle.c65_rtl.proofs.Pushes.{write_same}
use Rattle.c65_rtl.proofs.Stores.{reach_as}
use Rattle.c65_rtl.proofs.UnaryWords.{word_bytes_of, long_bytes_of}
use Rattle.c65_rtl.proofs.OnTos.{drop_lines, drop_at, GivesResult, Begins}

-- where the bytes of the number are, but the highest, which is in A
abbrev pub places : Width → List ℕ
places Ax = 16 ∷ []
places Eax = 16 ∷ 17 ∷ 18 ∷ []

abbrev pub number : Width → Bytes → ℕ → ℕ
number Ax zp a = zp 16 + 256 * a
number Eax zp a = zp 16 + 256 * zp 17 + 65536 * zp 18 + 16777216 * a

-- a number is there, and else the zero page is as it was
pub record IsHeld (width : Width) (v : ℕ) (old zp : Bytes) (a : ℕ) : Type 0 where
  pub rest : (i : ℕ) → is_among (places width) i ≡ false → zp i ≡ old i
  pub low : zp 16 < 256
  pub mid : zp 17 < 256
  pub third : zp 18 < 256
  pub high : a < 256
  pub value : number width zp a ≡ v

-- the count
abbrev pub count_of : Width → State → ℕ
count_of Ax t = bit_and t.regs.a 15
count_of Eax t = bit_and t.regs.a 31

pub count_is : (width : Width) (t : State) → count_of width t ≡ t.regs.a % bits_of width
count_is Ax t = and_mask t.regs.a 4
count_is Eax t = and_mask t.regs.a 5

-- what is written at some addresses leaves all others
pub write_among : (places : List ℕ) (m : Bytes) (at v i : ℕ) → IsTrue (is_among places at) → is_among places i ≡ false → write m at v i ≡ m i
write_among places m at v i among out = write_other m at v i (λ e. let g = ap (is_among places) e in cc)

-- the writes of what is at these addresses now
abbrev pub written_as : Bytes → List ℕ → List (ℕ × ℕ)
written_as new [] = []
written_as new (k ∷ places) = (k, new k) ∷ written_as new places

pub only_written : (new : Bytes) (places : List ℕ) (old : Bytes) (i : ℕ) → (is_among places i ≡ false → new i ≡ old i) → new i ≡ written old (written_as new places) i
only_written new [] old i same = same refl
only_written new (k ∷ places) old i same = only_written new places (write old k (new k)) i (λ out. by out (eqb_tells i k))
  where
    by : is_among places i ≡ false → ((nat_eq i k ≡ true) × (i ≡ k)) ⊎ ((nat_eq i k ≡ false) × (i ≢ k)) → new i ≡ write old k (new k) i
    by out (inl e) = ap new e.1 ∙ sym (write_same old k (new k) i e.1)
    by out (inr e) = same (or_none (nat_eq i k) (is_among places i) e.0 out) ∙ sym (write_other old k (new k) i e.1)

-- the count to X, the number to its bytes, and on to the label 3 where the count is 0
abbrev pub head_on : Width → List Line → List Line
head_on Ax rest = value And 15 ∷ implied Tax ∷ value Ldy 0 ∷ by_y Lda sp ∷ zero_page Sta tmp1 ∷ implied Iny ∷ by_y Lda sp ∷ value Cpx 0 ∷ branch Beq 3 ∷ Label 2 ∷ rest
head_on Eax rest = value And 31 ∷ implied Tax ∷ value Ldy 0 ∷ by_y Lda sp ∷ zero_page Sta tmp1 ∷ implied Iny ∷ by_y Lda sp ∷ zero_page Sta tmp2 ∷ implied Iny ∷ by_y Lda sp ∷ zero_page Sta tmp3 ∷ implied Iny ∷ by_y Lda sp ∷ value Cpx 0 ∷ branch Beq 3 ∷ Label 2 ∷ rest

-- what is known where the number was taken
abbrev pub Taken : Width → Place → State → (State → Type 0) → Type 0
Taken width back t Goes = (r : Regs) (zp : Bytes) → r.x ≡ count_of width t → IsHeld width (number_at width t.mem (sp_of t)) t.zp zp r.a → Goes (record (called back t) { regs = r; zp = zp })

pub head_at : (width : Width) (place : Placement) (bounds : Bounds) (P : State → Type 0) (B : ℕ → State → Type 0) (rest : List Line) (back : Place) (t : State) → Begins width place bounds t
    → Taken width back t (λ w. (count_of width t + 256 - 0) % 256 ≡ 0 → leads_round place bounds P B (2 ∷ []) rest (Some 3) w) → Taken width back t (λ w. (count_of width t + 256 - 0) % 256 ≢ 0 → leads_round place bounds P B (2 ∷ []) rest None w)
    → leads_round place bounds P B [] (head_on width rest) None (called back t)
unfolding leads_round
head_at Ax place bounds P B rest back t begin none some =
    let near = begin.near in
    let fits = begin.fits in
    let k0 : 0 < 2 = omega arith in
    let k1 : 1 < 2 = omega arith in
    let e0 : (t.zp 0 + 256 * t.zp 1 + 0) % 65536 ≡ sp_of t = omega arith in
    let e1 : (t.zp 0 + 256 * t.zp 1 + 1) % 65536 ≡ sp_of t + 1 = omega arith in
    let m0 : ℕ = t.mem ((t.zp 0 + 256 * t.zp 1 + 0) % 65536) in
    let m1 : ℕ = t.mem ((t.zp 0 + 256 * t.zp 1 + 1) % 65536) in
    let m : Operand t.mem (sp_of t) m0 m1 (t.mem (sp_of t + 2)) (t.mem (sp_of t + 3)) = operand t.mem (sp_of t) m0 m1 (t.mem (sp_of t + 2)) (t.mem (sp_of t + 3)) begin.bytes.mem (ap t.mem e0) (ap t.mem e1) refl refl in
    let zp : Bytes = write t.zp 16 m0 in
    let held : IsHeld Ax (number_at Ax t.mem (sp_of t)) t.zp zp m1 =
    record { rest = λ i out. write_among (places Ax) t.zp 16 m0 i refl out; low = m.b0; mid = begin.bytes.zp 17; third = begin.bytes.zp 18; high = m.b1; value = m.word } in (
      reach_as place bounds _ (sp_of t) e0 (near.first k0),
      (
        reach_as place bounds _ (sp_of t + 1) e1 (near.reach 1 k1),
        elim [
          | true ↦ λ e. none _ zp refl held (eq_true _ _ e)
          | false ↦ λ e. some _ zp refl held (eq_false _ _ e)
        ],
      ),
    )
head_at Eax place bounds P B rest back t begin none some =
    let near = begin.near in
    let fits = begin.fits in
    let k0 : 0 < 4 = omega arith in
    let k1 : 1 < 4 = omega arith in
    let k2 : 2 < 4 = omega arith in
    let k3 : 3 < 4 = omega arith in
    let e0 : (t.zp 0 + 256 * t.zp 1 + 0) % 65536 ≡ sp_of t = omega arith in
    let e1 : (t.zp 0 + 256 * t.zp 1 + 1) % 65536 ≡ sp_of t + 1 = omega arith in
    let e2 : (t.zp 0 + 256 * t.zp 1 + 2) % 65536 ≡ sp_of t + 2 = omega arith in
    let e3 : (t.zp 0 + 256 * t.zp 1 + 3) % 65536 ≡ sp_of t + 3 = omega arith in
    let m0 : ℕ = t.mem ((t.zp 0 + 256 * t.zp 1 + 0) % 65536) in
    let m1 : ℕ = t.mem ((t.zp 0 + 256 * t.zp 1 + 1) % 65536) in
    let m2 : ℕ = t.mem ((t.zp 0 + 256 * t.zp 1 + 2) % 65536) in
    let m3 : ℕ = t.mem ((t.zp 0 + 256 * t.zp 1 + 3) % 65536) in
    let m : Operand t.mem (sp_of t) m0 m1 m2 m3 = operand t.mem (sp_of t) m0 m1 m2 m3 begin.bytes.mem (ap t.mem e0) (ap t.mem e1) (ap t.mem e2) (ap t.mem e3) in
    let tos = m.long in
    let zp : Bytes = write (write (write t.zp 16 m0) 17 m1) 18 m2 in
    let held : IsHeld Eax (number_at Eax t.mem (sp_of t)) t.zp zp m3 =
    record { rest = λ i out. write_among (places Eax) (write (write t.zp 16 m0) 17 m1) 18 m2 i refl out ∙ (write_among (places Eax) (write t.zp 16 m0) 17 m1 i refl out ∙ write_among (places Eax) t.zp 16 m0 i refl out); low = m.b0; mid = m.b1; third = m.b2; high = m.b3; value = omega arith } in (
      reach_as place bounds _ (sp_of t) e0 (near.first k0),
      (
        reach_as place bounds _ (sp_of t + 1) e1 (near.reach 1 k1),
        (
          reach_as place bounds _ (sp_of t + 2) e2 (near.reach 2 k2),
          (
            reach_as place bounds _ (sp_of t + 3) e3 (near.reach 3 k3),
            elim [
              | true ↦ λ e. none _ zp refl held (eq_true _ _ e)
              | false ↦ λ e. some _ zp refl held (eq_false _ _ e)
            ],
          ),
        ),
      ),
    )

-- the result to its registers, and TOS is dropped
abbrev pub taken_on : Width → List Line → List Line
taken_on Ax rest = implied Tax ∷ zero_page Lda tmp1 ∷ rest
taken_on Eax rest = zero_page Sta (sreg + 1) ∷ zero_page Lda tmp3 ∷ zero_page Sta sreg ∷ zero_page Ldx tmp2 ∷ zero_page Lda tmp1 ∷ rest

abbrev pub exit_lines : Width → List Line
exit_lines width = taken_on width (drop_lines width)

abbrev taken : Width → State → Bool → Bool → State
taken Ax u n z = record u { regs = record u.regs { a = u.zp 16; x = u.regs.a; n = n; z = z } }
taken Eax u n z = record u { regs = record u.regs { a = u.zp 16; x = u.zp 17; n = n; z = z }; zp = write (write u.zp 3 u.regs.a) 2 (u.zp 18) }

taken_at : (width : Width) (place : Placement) (bounds : Bounds) (P : State → Type 0) (rest : List Line) (u : State) → ((n z : Bool) → leads place bounds P rest None (taken width u n z)) → leads place bounds P (taken_on width rest) None u
unfolding leads
taken_at Ax place bounds P rest u follows = follows _ _
taken_at Eax place bounds P rest u follows = follows _ _

-- the way out of the loop
pub exit_at : (width : Width) (op : TosOp) (place : Placement) (bounds : Bounds) (P : State → Type 0) (back : Place) (t : State) (v : ℕ) (r : Regs) (z : Bytes) → Begins width place bounds t → IsHeld width v t.zp z r.a
    → GivesResult op width width (Some v) back t P → leads place bounds P (exit_lines width) None (record (called back t) { regs = r; zp = z })
exit_at Ax op place bounds P back t v r z begin held gives =
    let z0 : z 0 ≡ t.zp 0 = held.rest 0 refl in
    let z1 : z 1 ≡ t.zp 1 = held.rest 1 refl in
    let b0 = begin.bytes.zp 0 in
    let b1 = begin.bytes.zp 1 in
    let room = begin.fits in
    taken_at Ax place bounds P (drop_lines Ax) (record (called back t) { regs = r; zp = z })
    (λ m w. drop_at Ax place bounds P (taken Ax (record (called back t) { regs = r; zp = z }) m w) (omega arith) (omega arith) (omega arith)
    (λ y n o e c zp moved.
    let at = moved.sp in
    gives (z 16) r.a y n o e c zp (written_as zp (places Ax)) refl (λ i two. only_written zp (places Ax) t.zp i (λ out. moved.rest i two ∙ held.rest i out)) (omega arith)
    (word_bytes_of v (z 16) r.a held.low held.high held.value)))
exit_at Eax op place bounds P back t v r z begin held gives =
    let all : List ℕ = 2 ∷ 3 ∷ places Eax in
    let z0 : z 0 ≡ t.zp 0 = held.rest 0 refl in
    let z1 : z 1 ≡ t.zp 1 = held.rest 1 refl in
    let b0 = begin.bytes.zp 0 in
    let b1 = begin.bytes.zp 1 in
    let room = begin.fits in
    taken_at Eax place bounds P (drop_lines Eax) (record (called back t) { regs = r; zp = z })
    (λ m w. drop_at Eax place bounds P (taken Eax (record (called back t) { regs = r; zp = z }) m w) (omega arith) (omega arith) (omega arith)
    (λ y n o e c zp moved.
    let at = moved.sp in
    let value = held.value in
    let low : zp 2 ≡ z 18 = moved.rest 2 (omega arith) in
    let high : zp 3 ≡ r.a = moved.rest 3 (omega arith) in
    gives (z 16) (z 17) y n o e c zp (written_as zp all) refl
    (λ i two. only_written zp all t.zp i (λ out. moved.rest i two
    ∙ (write_among all (write z 3 r.a) 2 (z 18) i refl out ∙ (write_among all z 3 r.a i refl out ∙ held.rest i (or_parts (nat_eq i 3) (is_among (places Eax) i) (or_parts (nat_eq i 2) (is_among (3 ∷ places Eax) i) out).1).1))))
    (omega arith) (long_bytes_of v (z 16) (z 17) (zp 2) (zp 3) held.low held.mid (omega arith))))
