-- The routines that load and store through a pointer.
use Rattle.std.proofs.Common.{◌≡◌, ℕ, ◌+◌, ◌*◌, ◌/◌, ◌%◌, ◌<◌, Bool, List, [], ◌∷◌, None, refl, sym, ap, ◌∙◌, arith}
use Rattle.c65_mach.specs.declared.rows.Op.TheVariants.{Dey, Lda, Ldx, Ldy, Rts, Sta, Stx, Tax}
use Rattle.c65_code.specs.declared.routine.Routine.TheVariants as routines
use Rattle.c65_code.specs.declared.routine.Width.TheVariants.{Ax, Eax}
use Rattle.c65_code.specs.declared.line.Line.{Line}
use Rattle.c65_code.specs.LineState.{Place, Bytes, write, word_at, State, ax_of}
use Rattle.c65_code.specs.Placement.{Placement}
use Rattle.c65_code.specs.Rows.{Row, row_by, giving, far_reading, costing, long_at}
use Rattle.c65_code.specs.RawMachine.{RawSetting, Bounds, IsReachable, called, MayRun, Runs, MeetsRow, reach_of}
use Rattle.c65_rtl.specs.Assembly.{sreg, ptr1, implied, value, zero_page, by_y}
use Rattle.c65_rtl.specs.Routines.{lines_of}
use Rattle.c65_rtl.proofs.Ways.{leads, Ends, runs}
use Rattle.c65_rtl.proofs.Plain.{ends_plain}
use Rattle.c65_rtl.proofs.Opens.{OpenBytes, opens_far}
use Rattle.c65_rtl.proofs.SpPieces.{left}
use Rattle.c65_rtl.proofs.Pushes.{meets_by}
use Rattle.c65_rtl.proofs.Loads.{word_low, word_high}
use Rattle.c65_rtl.proofs.Longs.{IsLong, is_long}
use Rattle.c65_rtl.proofs.Stores.{reach_as}

-- A from address AX, and X = 0
abbrev ldai_lines : List Line
ldai_lines = zero_page Sta ptr1 ∷ zero_page Stx (ptr1 + 1) ∷ value Ldy 0 ∷ by_y Lda ptr1 ∷ value Ldx 0 ∷ implied Rts ∷ []

-- the zero page with AX in ptr1
abbrev pointing : State → Bytes
pointing u = write (write u.zp 8 u.regs.a) 9 u.regs.x

ldai_at : (place : Placement) (bounds : Bounds) (P : State → Type 0) (at : ℕ) (u : State) → (u.regs.a + 256 * u.regs.x + 0) % 65536 ≡ at → IsReachable place bounds at
    → ((a : ℕ) (n z : Bool) → a ≡ u.mem at → P (left u a 0 0 n u.regs.v z u.regs.c (pointing u) u.mem)) → leads place bounds P ldai_lines None (record u { pushed = [] })
unfolding leads
ldai_at place bounds P at u e0 r0 follows = (reach_as place bounds _ at e0 r0, follows _ _ _ (ap u.mem e0))

-- AX from address AX
abbrev ldaxi_lines : List Line
ldaxi_lines = zero_page Sta ptr1 ∷ zero_page Stx (ptr1 + 1) ∷ value Ldy 1 ∷ by_y Lda ptr1 ∷ implied Tax ∷ implied Dey ∷ by_y Lda ptr1 ∷ implied Rts ∷ []

ldaxi_at : (place : Placement) (bounds : Bounds) (P : State → Type 0) (at : ℕ) (u : State) → (u.regs.a + 256 * u.regs.x + 1) % 65536 ≡ at + 1 → (u.regs.a + 256 * u.regs.x + 0) % 65536 ≡ at → IsReachable place bounds at → IsReachable place bounds (at + 1)
    → ((a x : ℕ) (n z : Bool) → a ≡ u.mem at → x ≡ u.mem (at + 1) → P (left u a x 0 n u.regs.v z u.regs.c (pointing u) u.mem)) → leads place bounds P ldaxi_lines None (record u { pushed = [] })
unfolding leads
ldaxi_at place bounds P at u e1 e0 r0 r1 follows = (reach_as place bounds _ (at + 1) e1 r1, (reach_as place bounds _ at e0 r0, follows _ _ _ _ (ap u.mem e0) (ap u.mem e1)))

-- EAX from address AX
abbrev ldeaxi_lines : List Line
ldeaxi_lines = zero_page Sta ptr1 ∷ zero_page Stx (ptr1 + 1) ∷ value Ldy 3 ∷ by_y Lda ptr1 ∷ zero_page Sta (sreg + 1) ∷ implied Dey ∷ by_y Lda ptr1 ∷ zero_page Sta sreg ∷ implied Dey ∷ by_y Lda ptr1 ∷ implied Tax ∷ implied Dey ∷ by_y Lda ptr1 ∷ implied Rts ∷ []

ldeaxi_at : (place : Placement) (bounds : Bounds) (P : State → Type 0) (at : ℕ) (u : State)
    → (u.regs.a + 256 * u.regs.x + 3) % 65536 ≡ at + 3 → (u.regs.a + 256 * u.regs.x + 2) % 65536 ≡ at + 2 → (u.regs.a + 256 * u.regs.x + 1) % 65536 ≡ at + 1 → (u.regs.a + 256 * u.regs.x + 0) % 65536 ≡ at
    → OpenBytes place bounds 4 at
    → ((a x l h : ℕ) (n z : Bool) → a ≡ u.mem at → x ≡ u.mem (at + 1) → l ≡ u.mem (at + 2) → h ≡ u.mem (at + 3) → P (left u a x 0 n u.regs.v z u.regs.c (write (write (pointing u) 3 h) 2 l) u.mem))
    → leads place bounds P ldeaxi_lines None (record u { pushed = [] })
unfolding leads
ldeaxi_at place bounds P at u e3 e2 e1 e0 bytes follows =
    let k0 : 0 < 4 = omega arith in
    let k1 : 1 < 4 = omega arith in
    let k2 : 2 < 4 = omega arith in
    let k3 : 3 < 4 = omega arith in (
      reach_as place bounds _ (at + 3) e3 (bytes.reach 3 k3),
      (
        reach_as place bounds _ (at + 2) e2 (bytes.reach 2 k2),
        (
          reach_as place bounds _ (at + 1) e1 (bytes.reach 1 k1),
          (
            reach_as place bounds _ at e0 (bytes.first k0),
            follows _ _ _ _ _ _ (ap u.mem e0) (ap u.mem e1) (ap u.mem e2) (ap u.mem e3),
          ),
        ),
      ),
    )

abbrev ldai_row : State → Row
ldai_row t = costing 256 (giving Ax (t.mem (ax_of t)) (far_reading 1 (ax_of t) (row_by routines.LdAi t)))

ldai_runs : (s : RawSetting) → s.lines (s.routine routines.LdAi) ≡ ldai_lines → (back : Place) (t : State) → MayRun s (ldai_row t) t → Runs s routines.LdAi (ldai_row t) back t
ldai_runs s has back t may =
    let bytes : OpenBytes s.place (reach_of t) 1 (ax_of t) = opens_far s (ldai_row t) 1 (ax_of t) t refl may in
    let k0 : 0 < 1 = omega arith in
    let end : ax_of t + 0 < 65520 = bytes.below 0 k0 in
    let byte = may.bytes.mem (ax_of t) in
    let low_is : t.mem (ax_of t) ≡ t.mem (ax_of t) % 256 = omega arith in
    let high_is : t.mem (ax_of t) / 256 % 256 ≡ 0 = omega arith in
    runs s routines.LdAi (ldai_row t) back t ldai_lines has (record { onward = refl; weight = refl; depth = refl }) refl may
    (ldai_at s.place (reach_of t) (Ends (ldai_row t) t) (ax_of t) (called back t) (omega arith) (bytes.first k0)
    (λ a n z is_a. ends_plain (ldai_row t) back t a 0 0 n t.regs.v z t.regs.c (pointing t) t.mem ((8, t.regs.a) ∷ (9, t.regs.x) ∷ []) refl may.running (tt, tt, refl, refl) (λ i two. refl)
    refl (is_a ∙ low_is, sym high_is, tt) (λ b h. refl)))

pub ldai : (s : RawSetting) → s.lines (s.routine routines.LdAi) ≡ lines_of routines.LdAi → MeetsRow s routines.LdAi
ldai s has = meets_by s routines.LdAi ldai_row (λ t. refl) (ldai_runs s has)

abbrev ldaxi_row : State → Row
ldaxi_row t = costing 256 (giving Ax (word_at t.mem (ax_of t)) (far_reading 2 (ax_of t) (row_by routines.LdAxi t)))

ldaxi_runs : (s : RawSetting) → s.lines (s.routine routines.LdAxi) ≡ ldaxi_lines → (back : Place) (t : State) → MayRun s (ldaxi_row t) t → Runs s routines.LdAxi (ldaxi_row t) back t
ldaxi_runs s has back t may =
    let bytes : OpenBytes s.place (reach_of t) 2 (ax_of t) = opens_far s (ldaxi_row t) 2 (ax_of t) t refl may in
    let k0 : 0 < 2 = omega arith in
    let k1 : 1 < 2 = omega arith in
    let end : ax_of t + 1 < 65520 = bytes.below 1 k1 in
    let b0 = may.bytes.mem (ax_of t) in
    let b1 = may.bytes.mem (ax_of t + 1) in
    runs s routines.LdAxi (ldaxi_row t) back t ldaxi_lines has (record { onward = refl; weight = refl; depth = refl }) refl may
    (ldaxi_at s.place (reach_of t) (Ends (ldaxi_row t) t) (ax_of t) (called back t) (omega arith) (omega arith) (bytes.first k0) (bytes.reach 1 k1)
    (λ a x n z is_a is_x. ends_plain (ldaxi_row t) back t a x 0 n t.regs.v z t.regs.c (pointing t) t.mem ((8, t.regs.a) ∷ (9, t.regs.x) ∷ []) refl may.running (tt, tt, refl, refl) (λ i two. refl)
    refl (is_a ∙ sym (word_low (t.mem (ax_of t)) (t.mem (ax_of t + 1)) b0), is_x ∙ sym (word_high (t.mem (ax_of t)) (t.mem (ax_of t + 1)) b0 b1), tt) (λ b h. refl)))

pub ldaxi : (s : RawSetting) → s.lines (s.routine routines.LdAxi) ≡ lines_of routines.LdAxi → MeetsRow s routines.LdAxi
ldaxi s has = meets_by s routines.LdAxi ldaxi_row (λ t. refl) (ldaxi_runs s has)

abbrev ldeaxi_row : State → Row
ldeaxi_row t = costing 256 (giving Eax (long_at t.mem (ax_of t)) (far_reading 4 (ax_of t) (row_by routines.LdEaxi t)))

ldeaxi_runs : (s : RawSetting) → s.lines (s.routine routines.LdEaxi) ≡ ldeaxi_lines → (back : Place) (t : State) → MayRun s (ldeaxi_row t) t → Runs s routines.LdEaxi (ldeaxi_row t) back t
ldeaxi_runs s has back t may =
    let bytes : OpenBytes s.place (reach_of t) 4 (ax_of t) = opens_far s (ldeaxi_row t) 4 (ax_of t) t refl may in
    let k0 : 0 < 4 = omega arith in
    let k1 : 1 < 4 = omega arith in
    let k3 : 3 < 4 = omega arith in
    let end : ax_of t + 3 < 65520 = bytes.below 3 k3 in
    runs s routines.LdEaxi (ldeaxi_row t) back t ldeaxi_lines has (record { onward = refl; weight = refl; depth = refl }) refl may
    (ldeaxi_at s.place (reach_of t) (Ends (ldeaxi_row t) t) (ax_of t) (called back t) (omega arith) (omega arith) (omega arith) (omega arith) bytes
    (λ a x l h n z is_a is_x is_l is_h. let long : IsLong t.mem (ax_of t) a x l h = is_long t.mem (ax_of t) a x l h may.bytes.mem is_a is_x is_l is_h in
    ends_plain (ldeaxi_row t) back t a x 0 n t.regs.v z t.regs.c (write (write (pointing t) 3 h) 2 l) t.mem ((8, t.regs.a) ∷ (9, t.regs.x) ∷ (3, h) ∷ (2, l) ∷ []) refl may.running (tt, tt, refl, refl) (λ i two. refl)
    refl (long.a, long.x, long.sreg) (λ b h. refl)))

pub ldeaxi : (s : RawSetting) → s.lines (s.routine routines.LdEaxi) ≡ lines_of routines.LdEaxi → MeetsRow s routines.LdEaxi
ldeaxi s has = meets_by s routines.LdEaxi ldeaxi_row (λ t. refl) (ldeaxi_runs s has)
