-- `memcpy` (C90 7.11.2.1)
use Rattle.std.proofs.Common.{◌≡◌, ◌≢◌, ℕ, ◌+◌, ◌*◌, ◌%◌, ◌<◌, Bool, List, [], ◌∷◌, ◌++◌, None, length, refl, sym, ap, subst, ◌∙◌, arith}
use Rattle.std.proofs.lemmas.List.{append-nil}
use Rattle.c65_mach.specs.declared.rows.Op.TheVariants.{Dey, Lda, Ldy, Sta, Stx}
use Rattle.c65_code.specs.declared.routine.Routine.TheVariants as routines
use Rattle.c65_base.specs.declared.library.Library.TheVariants.{Memcpy}
use Rattle.c65_code.specs.declared.line.Line.{Line}
use Rattle.c65_code.specs.LineState.{Place, Bytes, write, word_at, State, sp_of, ax_of}
use Rattle.c65_code.specs.Placement.{Placement}
use Rattle.c65_code.specs.Texts.{range_of}
use Rattle.c65_code.specs.Rows.{Row, copy_row}
use Rattle.c65_code.specs.RawMachine.{RawSetting, Bounds, IsReachable, called, MayRun, Runs, MeetsRow, reach_of}
use Rattle.c65_rtl.specs.Assembly.{sp, ptr1, ptr2, ptr3, implied, value, zero_page, by_y}
use Rattle.c65_rtl.specs.Stack.{raise_by_number}
use Rattle.c65_rtl.specs.Routines.{lines_of}
use Rattle.c65_rtl.proofs.Ways.{Ends}
use Rattle.c65_rtl.proofs.Rounds.{leads_round, onward_round}
use Rattle.c65_rtl.proofs.Meeting.{ends_by}
use Rattle.c65_rtl.proofs.Opens.{OpenBytes, opens_near}
use Rattle.c65_rtl.proofs.SpPieces.{left, raise_by_at}
use Rattle.c65_rtl.proofs.SpMoves.{with_y_at}
use Rattle.c65_rtl.proofs.Pushes.{meets_by}
use Rattle.c65_rtl.proofs.Stores.{reach_as}
use Rattle.c65_rtl.proofs.Loads.{load_word_on, load_word_at, word_low, word_high}
use Rattle.c65_rtl_law_walks.proofs.Loops.{Round, runs_loops, behind_line}
use Rattle.c65_rtl_law_walks.proofs.Ranges.{OpenRanges, opens_both, ranges_length}
use Rattle.c65_rtl_law_copies.proofs.Copies.{copy_on, Job, IsJob, Starts, Finish, Going, copy_begins, copy_round}
use Rattle.c65_rtl_law_walks.proofs.Pages.{with_pages}
use Rattle.c65_rtl_law_copies.proofs.Kept.{kept_outside}

-- AX to ptr3, the word at sp + 2 to ptr2
abbrev pub counted_on : List Line → List Line
counted_on rest = zero_page Sta ptr3 ∷ zero_page Stx (ptr3 + 1) ∷ value Ldy 3 ∷ by_y Lda sp ∷ zero_page Sta (ptr2 + 1) ∷ implied Dey ∷ by_y Lda sp ∷ zero_page Sta ptr2 ∷ rest

-- the word below the byte that was read last to ptr1
abbrev sourced_on : List Line → List Line
sourced_on rest = implied Dey ∷ by_y Lda sp ∷ zero_page Sta (ptr1 + 1) ∷ implied Dey ∷ by_y Lda sp ∷ zero_page Sta ptr1 ∷ rest

abbrev pub counted_state : State → ℕ → ℕ → Bool → Bool → State
counted_state u l h n z = record u { regs = record u.regs { a = l; y = 2; n = n; z = z }; zp = write (write (write (write u.zp 12 u.regs.a) 13 u.regs.x) 11 h) 10 l }

abbrev sourced_state : State → ℕ → ℕ → Bool → Bool → State
sourced_state u l h n z = record u { regs = record u.regs { a = l; y = 0; n = n; z = z }; zp = write (write u.zp 9 h) 8 l }

counted_by : (place : Placement) (bounds : Bounds) (P : State → Type 0) (B : ℕ → State → Type 0) (rest : List Line) (at : ℕ) (u : State)
    → (u.zp 0 + 256 * u.zp 1 + 3) % 65536 ≡ at + 1 → (u.zp 0 + 256 * u.zp 1 + 2) % 65536 ≡ at → IsReachable place bounds at → IsReachable place bounds (at + 1)
    → ((l h : ℕ) (n z : Bool) → l ≡ u.mem at → h ≡ u.mem (at + 1) → leads_round place bounds P B [] rest None (counted_state u l h n z))
    → leads_round place bounds P B [] (counted_on rest) None u
unfolding leads_round
counted_by place bounds P B rest at u e1 e0 r0 r1 follows =
    (reach_as place bounds _ (at + 1) e1 r1, (reach_as place bounds _ at e0 r0, follows _ _ _ _ (ap u.mem e0) (ap u.mem e1)))

pub counted_at : (place : Placement) (bounds : Bounds) (P : State → Type 0) (B : ℕ → State → Type 0) (rest : List Line) (at : ℕ) (u : State)
    → (u.zp 0 + 256 * u.zp 1 + 3) % 65536 ≡ at + 1 → (u.zp 0 + 256 * u.zp 1 + 2) % 65536 ≡ at → IsReachable place bounds at → IsReachable place bounds (at + 1)
    → ((n z : Bool) → leads_round place bounds P B [] rest None (counted_state u (u.mem at) (u.mem (at + 1)) n z))
    → leads_round place bounds P B [] (counted_on rest) None u
counted_at place bounds P B rest at u e1 e0 r0 r1 follows = counted_by place bounds P B rest at u e1 e0 r0 r1
    (λ l h n z is_l is_h. subst (λ (k : ℕ). leads_round place bounds P B [] rest None (counted_state u k h n z)) (sym is_l)
    (subst (λ (k : ℕ). leads_round place bounds P B [] rest None (counted_state u (u.mem at) k n z)) (sym is_h) (follows n z)))

sourced_by : (place : Placement) (bounds : Bounds) (P : State → Type 0) (B : ℕ → State → Type 0) (rest : List Line) (at : ℕ) (u : State)
    → u.regs.y ≡ 2 → (u.zp 0 + 256 * u.zp 1 + (u.regs.y + 255) % 256) % 65536 ≡ at + 1 → (u.zp 0 + 256 * u.zp 1 + ((u.regs.y + 255) % 256 + 255) % 256) % 65536 ≡ at
    → IsReachable place bounds at → IsReachable place bounds (at + 1)
    → ((l h y : ℕ) (n z : Bool) → y ≡ 0 → l ≡ u.mem at → h ≡ u.mem (at + 1) → leads_round place bounds P B [] rest None (record u { regs = record u.regs { a = l; y = y; n = n; z = z }; zp = write (write u.zp 9 h) 8 l }))
    → leads_round place bounds P B [] (sourced_on rest) None u
unfolding leads_round
sourced_by place bounds P B rest at u two e1 e0 r0 r1 follows =
    (reach_as place bounds _ (at + 1) e1 r1, (reach_as place bounds _ at e0 r0, follows _ _ _ _ _ (omega arith) (ap u.mem e0) (ap u.mem e1)))

sourced_at : (place : Placement) (bounds : Bounds) (P : State → Type 0) (B : ℕ → State → Type 0) (rest : List Line) (at : ℕ) (u : State)
    → u.regs.y ≡ 2 → (u.zp 0 + 256 * u.zp 1 + 1) % 65536 ≡ at + 1 → (u.zp 0 + 256 * u.zp 1 + 0) % 65536 ≡ at → IsReachable place bounds at → IsReachable place bounds (at + 1)
    → ((n z : Bool) → leads_round place bounds P B [] rest None (sourced_state u (u.mem at) (u.mem (at + 1)) n z))
    → leads_round place bounds P B [] (sourced_on rest) None u
sourced_at place bounds P B rest at u two e1 e0 r0 r1 follows =
    sourced_by place bounds P B rest at u two (omega arith) (omega arith) r0 r1
    (λ l h y n z is_y is_l is_h. subst (λ (k : ℕ). leads_round place bounds P B [] rest None (record u { regs = record u.regs { a = k; y = y; n = n; z = z }; zp = write (write u.zp 9 h) 8 k })) (sym is_l)
    (subst (λ (k : ℕ). leads_round place bounds P B [] rest None (record u { regs = record u.regs { a = u.mem at; y = y; n = n; z = z }; zp = write (write u.zp 9 k) 8 (u.mem at) })) (sym is_h)
    (subst (λ (k : ℕ). leads_round place bounds P B [] rest None (record u { regs = record u.regs { a = u.mem at; y = k; n = n; z = z }; zp = write (write u.zp 9 (u.mem (at + 1))) 8 (u.mem at) })) (sym is_y) (follows n z))))

-- a round behind these lines
pub behind_counted : (place : Placement) (bounds : Bounds) (P : State → Type 0) (lines : List Line) (Inv : ℕ → ℕ → State → Type 0) (l n : ℕ) (t : State)
    → Round place bounds P lines Inv l n t → Round place bounds P (counted_on lines) Inv l n t
behind_counted place bounds P lines Inv l n t r =
    behind_line place bounds P _ _ _ _ Inv l n t (behind_line place bounds P _ _ _ _ Inv l n t (behind_line place bounds P _ _ _ _ Inv l n t (behind_line place bounds P _ _ _ _ Inv l n t
    (behind_line place bounds P _ _ _ _ Inv l n t (behind_line place bounds P _ _ _ _ Inv l n t (behind_line place bounds P _ _ _ _ Inv l n t (behind_line place bounds P _ _ _ _ Inv l n t r)))))))

behind_sourced : (place : Placement) (bounds : Bounds) (P : State → Type 0) (lines : List Line) (Inv : ℕ → ℕ → State → Type 0) (l n : ℕ) (t : State)
    → Round place bounds P lines Inv l n t → Round place bounds P (sourced_on lines) Inv l n t
behind_sourced place bounds P lines Inv l n t r =
    behind_line place bounds P _ _ _ _ Inv l n t (behind_line place bounds P _ _ _ _ Inv l n t (behind_line place bounds P _ _ _ _ Inv l n t
    (behind_line place bounds P _ _ _ _ Inv l n t (behind_line place bounds P _ _ _ _ Inv l n t (behind_line place bounds P _ _ _ _ Inv l n t r)))))

abbrev pub end_lines : List Line
end_lines = value Ldy 3 ∷ load_word_on (raise_by_number 4)

abbrev memcpy_lines : List Line
memcpy_lines = counted_on (sourced_on (copy_on end_lines))

abbrev to_of : State → ℕ
to_of t = word_at t.mem (sp_of t + 2)

abbrev from_of : State → ℕ
from_of t = word_at t.mem (sp_of t)

abbrev memcpy_row : State → Row
memcpy_row t = copy_row (routines.Library Memcpy) (ax_of t) (to_of t) (from_of t) 4 t

-- the zero page before the copy
abbrev pointed : State → Bytes
pointed t = write (write (write (write (write (write t.zp 12 t.regs.a) 13 t.regs.x) 11 (t.mem (sp_of t + 2 + 1))) 10 (t.mem (sp_of t + 2))) 9 (t.mem (sp_of t + 1))) 8 (t.mem (sp_of t))

abbrev job_of : Place → State → Job
job_of back t = record { o = record (called back t) { zp = pointed t }; to = to_of t; from = from_of t; count = ax_of t }

finished : (s : RawSetting) (back : Place) (t : State) → MayRun s (memcpy_row t) t → OpenBytes s.place (reach_of t) 4 (sp_of t) → OpenRanges s (memcpy_row t) t (ax_of t) (from_of t) (ax_of t) (to_of t)
    → Finish s.place (reach_of t) (Ends (memcpy_row t) t) end_lines (job_of back t)
finished s back t may near far B u c =
    let zero_is : c.zp 0 ≡ t.zp 0 = c.rest 0 (let other : 0 ≢ 9 = omega arith in other) (let other : 0 ≢ 11 = omega arith in other) in
    let one_is : c.zp 1 ≡ t.zp 1 = c.rest 1 (let other : 1 ≢ 9 = omega arith in other) (let other : 1 ≢ 11 = omega arith in other) in
    let low = may.bytes.zp 0 in
    let high = may.bytes.zp 1 in
    let k2 : 2 < 4 = omega arith in
    let k3 : 3 < 4 = omega arith in
    let near_end : sp_of t + 3 < 65520 = near.below 3 k3 in
    let soft = may.room.soft in
    let sp_high = may.high in
    let low_kept : c.mem (sp_of t + 2) ≡ t.mem (sp_of t + 2) = c.copies (sp_of t + 2) ∙ kept_outside (ax_of t) (to_of t) (from_of t) t.mem (sp_of t + 2) (λ k few. far.away k few (sp_of t + 2) (omega arith) (omega arith)) in
    let high_kept : c.mem (sp_of t + 2 + 1) ≡ t.mem (sp_of t + 2 + 1) = c.copies (sp_of t + 2 + 1) ∙ kept_outside (ax_of t) (to_of t) (from_of t) t.mem (sp_of t + 2 + 1) (λ k few. far.away k few (sp_of t + 2 + 1) (omega arith) (omega arith)) in
    let low_byte_is = may.bytes.mem (sp_of t + 2) in
    let high_byte_is = may.bytes.mem (sp_of t + 2 + 1) in
    let next : sp_of t + 2 + 1 ≡ sp_of t + 3 = omega arith in
    let to : State = record (called back t) { regs = record { a = c.a; x = c.x; y = c.y; n = c.nf; v = t.regs.v; z = c.zf; c = t.regs.c }; zp = c.zp; mem = c.mem } in
    subst (λ (k : State). leads_round s.place (reach_of t) (Ends (memcpy_row t) t) B (5 ∷ 4 ∷ 3 ∷ 2 ∷ []) end_lines None k) (sym c.is)
    (onward_round s.place (reach_of t) (Ends (memcpy_row t) t) B end_lines (5 ∷ 4 ∷ 3 ∷ 2 ∷ []) refl None to
    (with_y_at s.place (reach_of t) (Ends (memcpy_row t) t) 3 (load_word_on (raise_by_number 4)) to (λ m w.
    load_word_at s.place (reach_of t) (Ends (memcpy_row t) t) (raise_by_number 4) (sp_of t + 2) (record to { regs = record to.regs { y = 3; n = m; z = w } }) (omega arith) (omega arith)
    (near.reach 2 k2) (reach_as s.place (reach_of t) (sp_of t + 2 + 1) (sp_of t + 3) next (near.reach 3 k3))
    (λ a x y n z is_a is_x. raise_by_at s.place (reach_of t) (Ends (memcpy_row t) t) 4 (record to { regs = record to.regs { a = a; x = x; y = y; n = n; z = z } }) (omega arith) (omega arith) (omega arith) (omega arith)
    (λ y n v z c' zp moved. let sp_is = moved.sp in ends_by (memcpy_row t) t (left (called back t) a x y n v z c' zp c.mem)
    ((12, t.regs.a) ∷ (13, t.regs.x) ∷ (11, t.mem (sp_of t + 2 + 1)) ∷ (10, t.mem (sp_of t + 2)) ∷ (9, t.mem (sp_of t + 1)) ∷ (8, t.mem (sp_of t)) ∷ (9, c.zp 9) ∷ (11, c.zp 11) ∷ []) (record {
      zp = λ i two. moved.rest i two ∙ with_pages (pointed t) c.zp c.rest i;
      fit = refl;
      small = (refl, refl, refl, refl, refl);
      low_kept = tt;
      high_kept = tt;
      a_kept = tt;
      x_kept = tt;
      sp = omega arith;
      a = is_a ∙ (low_kept ∙ sym (word_low (t.mem (sp_of t + 2)) (t.mem (sp_of t + 2 + 1)) low_byte_is));
      x = is_x ∙ (high_kept ∙ sym (word_high (t.mem (sp_of t + 2)) (t.mem (sp_of t + 2 + 1)) low_byte_is high_byte_is));
      sreg = tt;
      pointers = tt;
      bank = tt;
      mem = λ b h. c.copies b;
      input = refl;
      output = sym (append-nil t.output);
      ended = may.running;
    }))))))

memcpy_runs : (s : RawSetting) → s.lines (s.routine (routines.Library Memcpy)) ≡ memcpy_lines → (back : Place) (t : State) → MayRun s (memcpy_row t) t → Runs s (routines.Library Memcpy) (memcpy_row t) back t
memcpy_runs s has back t may =
    let soft = may.room.soft in
    let sp_high = may.high in
    let near : OpenBytes s.place (reach_of t) 4 (sp_of t) = opens_near s (memcpy_row t) 4 (sp_of t) t (omega arith) refl may in
    let far : OpenRanges s (memcpy_row t) t (ax_of t) (from_of t) (ax_of t) (to_of t) = opens_both s (memcpy_row t) (ax_of t) (from_of t) (ax_of t) (to_of t) t refl may in
    let k0 : 0 < 4 = omega arith in
    let k1 : 1 < 4 = omega arith in
    let k2 : 2 < 4 = omega arith in
    let k3 : 3 < 4 = omega arith in
    let near_end : sp_of t + 3 < 65520 = near.below 3 k3 in
    let next : sp_of t + 2 + 1 ≡ sp_of t + 3 = omega arith in
    let j : Job = job_of back t in
    let low_count : t.regs.a < 256 = may.bytes.a in
    let job : IsJob s.place (reach_of t) j = record { reaches = record { from_bytes = far.first; to_bytes = far.second }; number = refl; low = low_count } in
    let starts : Starts j = record { from_is = refl; to_is = refl } in
    let finish : Finish s.place (reach_of t) (Ends (memcpy_row t) t) end_lines j = finished s back t may near far in
    let many : length (range_of (ax_of t) (from_of t) ++ range_of (ax_of t) (to_of t)) ≡ ax_of t + ax_of t = ranges_length (ax_of t) (from_of t) (ax_of t) (to_of t) in
    runs_loops s (routines.Library Memcpy) (memcpy_row t) back t memcpy_lines has (Going j 24)
    (λ l n u g. behind_counted s.place (reach_of t) (Ends (memcpy_row t) t) (sourced_on (copy_on end_lines)) (Going j 24) l n u
    (behind_sourced s.place (reach_of t) (Ends (memcpy_row t) t) (copy_on end_lines) (Going j 24) l n u (copy_round s.place (reach_of t) (Ends (memcpy_row t) t) end_lines j 24 job finish (λ m. omega arith) l n u g)))
    (24 * ax_of t + 54) (omega arith) refl may
    (counted_at s.place (reach_of t) (Ends (memcpy_row t) t) (λ i v. Going j 24 i (24 * ax_of t + 54) v) (sourced_on (copy_on end_lines)) (sp_of t + 2) (called back t) (omega arith) (omega arith)
    (near.reach 2 k2) (reach_as s.place (reach_of t) (sp_of t + 2 + 1) (sp_of t + 3) next (near.reach 3 k3))
    (λ n z. sourced_at s.place (reach_of t) (Ends (memcpy_row t) t) (λ i v. Going j 24 i (24 * ax_of t + 54) v) (copy_on end_lines) (sp_of t) (counted_state (called back t) (t.mem (sp_of t + 2)) (t.mem (sp_of t + 2 + 1)) n z) refl (omega arith) (omega arith)
    (near.first k0) (near.reach 1 k1)
    (λ n z. copy_begins s.place (reach_of t) (Ends (memcpy_row t) t) end_lines j 24 (24 * ax_of t + 54) (t.mem (sp_of t)) t.regs.x 0 n z job starts finish (omega arith))))

pub memcpy : (s : RawSetting) → s.lines (s.routine (routines.Library Memcpy)) ≡ lines_of (routines.Library Memcpy) → MeetsRow s (routines.Library Memcpy)
memcpy s has = meets_by s (routines.Library Memcpy) memcpy_row (λ t. refl) (memcpy_runs s has)
