-- `memset` (C90 7.11.6.1)
use Rattle.std.proofs.Common.{◌≡◌, ◌≢◌, ℕ, ◌+◌, ◌*◌, ◌%◌, ◌<◌, Bool, List, [], ◌∷◌, None, length, refl, sym, ap, subst, ◌∙◌, arith}
use Rattle.std.proofs.lemmas.List.{append-nil}
use Rattle.c65_mach.specs.declared.rows.Op.TheVariants.{Lda, Ldy}
use Rattle.c65_code.specs.declared.routine.Routine.TheVariants as routines
use Rattle.c65_base.specs.declared.library.Library.TheVariants.{Memset}
use Rattle.c65_code.specs.declared.line.Line.{Line}
use Rattle.c65_code.specs.LineState.{Place, Bytes, write, word_at, State, sp_of, ax_of}
use Rattle.c65_code.specs.Placement.{Placement}
use Rattle.c65_code.specs.Texts.{range_of, filled}
use Rattle.c65_code.specs.declared.routine.Width.TheVariants.{Ax}
use Rattle.c65_code.specs.Rows.{Row, row_by, giving, popping, costing, by_bytes}
use Rattle.c65_code.specs.RawMachine.{RawSetting, Bounds, IsReachable, called, MayRun, Runs, MeetsRow, reach_of}
use Rattle.c65_rtl.specs.Assembly.{sp, value, by_y}
use Rattle.c65_rtl.specs.Stack.{raise_by_number}
use Rattle.c65_rtl.specs.Routines.{lines_of}
use Rattle.c65_rtl.proofs.Ways.{Ends}
use Rattle.c65_rtl.proofs.Rounds.{leads_round, onward_round}
use Rattle.c65_rtl.proofs.Meeting.{ends_by}
use Rattle.c65_rtl.proofs.Opens.{OpenBytes, opens_near}
use Rattle.c65_rtl.proofs.SpPieces.{left, raise_by_at}
use Rattle.c65_rtl.proofs.SpMoves.{with_y_at}
use Rattle.c65_rtl.proofs.Pushes.{meets_by}
use Rattle.c65_rtl.proofs.Stores.{reach_as}
use Rattle.c65_rtl.proofs.Loads.{load_word_on, load_word_at, word_low, word_high}
use Rattle.c65_rtl_law_walks.proofs.Loops.{runs_loops, behind_line}
use Rattle.c65_rtl_law_walks.proofs.Ranges.{OpenRange, opens_one, range_length}
use Rattle.c65_rtl_law_copies.proofs.Memcpy.{counted_on, counted_state, counted_at, behind_counted, end_lines}
use Rattle.c65_rtl_law_copies.proofs.Fills.{fill_on, Job, IsJob, Finish, Going, fill_round, fill_begins}
use Rattle.c65_rtl_law_walks.proofs.Pages.{with_pages}
use Rattle.c65_rtl_law_copies.proofs.Kept.{kept_unfilled}

-- the byte at sp
top_by : (place : Placement) (bounds : Bounds) (P : State → Type 0) (B : ℕ → State → Type 0) (rest : List Line) (at : ℕ) (u : State) → (u.zp 0 + 256 * u.zp 1 + 0) % 65536 ≡ at → IsReachable place bounds at
    → ((a : ℕ) (n z : Bool) → a ≡ u.mem at → leads_round place bounds P B [] rest None (record u { regs = record u.regs { a = a; y = 0; n = n; z = z } }))
    → leads_round place bounds P B [] (value Ldy 0 ∷ by_y Lda sp ∷ rest) None u
unfolding leads_round
top_by place bounds P B rest at u e r follows = (reach_as place bounds _ at e r, follows _ _ _ (ap u.mem e))

top_at : (place : Placement) (bounds : Bounds) (P : State → Type 0) (B : ℕ → State → Type 0) (rest : List Line) (at : ℕ) (u : State) → (u.zp 0 + 256 * u.zp 1 + 0) % 65536 ≡ at → IsReachable place bounds at
    → ((n z : Bool) → leads_round place bounds P B [] rest None (record u { regs = record u.regs { a = u.mem at; y = 0; n = n; z = z } }))
    → leads_round place bounds P B [] (value Ldy 0 ∷ by_y Lda sp ∷ rest) None u
top_at place bounds P B rest at u e r follows =
    top_by place bounds P B rest at u e r (λ a n z is_a. subst (λ (k : ℕ). leads_round place bounds P B [] rest None (record u { regs = record u.regs { a = k; y = 0; n = n; z = z } })) (sym is_a) (follows n z))

abbrev memset_lines : List Line
memset_lines = counted_on (value Ldy 0 ∷ by_y Lda sp ∷ fill_on end_lines)

abbrev to_of : State → ℕ
to_of t = word_at t.mem (sp_of t + 2)

abbrev memset_row : State → Row
memset_row t = by_bytes (giving Ax (to_of t) (record (popping 4 t (costing 256 (row_by (routines.Library Memset) t))) { writes = filled (ax_of t) (to_of t) (t.mem (sp_of t)); far = range_of (ax_of t) (to_of t) }))

-- the zero page before the first byte
abbrev pointed : State → Bytes
pointed t = write (write (write (write t.zp 12 t.regs.a) 13 t.regs.x) 11 (t.mem (sp_of t + 2 + 1))) 10 (t.mem (sp_of t + 2))

abbrev job_of : Place → State → Job
job_of back t = record { o = record (called back t) { zp = pointed t }; to = to_of t; count = ax_of t; v = t.mem (sp_of t) }

finished : (s : RawSetting) (back : Place) (t : State) → MayRun s (memset_row t) t → OpenBytes s.place (reach_of t) 4 (sp_of t) → OpenRange s (memset_row t) t (ax_of t) (to_of t)
    → Finish s.place (reach_of t) (Ends (memset_row t) t) end_lines (job_of back t)
finished s back t may near far B u c =
    let zero_is : c.zp 0 ≡ t.zp 0 = c.rest 0 (let other : 0 ≢ 11 = omega arith in other) in
    let one_is : c.zp 1 ≡ t.zp 1 = c.rest 1 (let other : 1 ≢ 11 = omega arith in other) in
    let low = may.bytes.zp 0 in
    let high = may.bytes.zp 1 in
    let k2 : 2 < 4 = omega arith in
    let k3 : 3 < 4 = omega arith in
    let near_end : sp_of t + 3 < 65520 = near.below 3 k3 in
    let soft = may.room.soft in
    let sp_high = may.high in
    let low_kept : c.mem (sp_of t + 2) ≡ t.mem (sp_of t + 2) = c.fills (sp_of t + 2) ∙ kept_unfilled (ax_of t) (to_of t) (t.mem (sp_of t)) t.mem (sp_of t + 2) (λ k few. far.away k few (sp_of t + 2) (omega arith) (omega arith)) in
    let high_kept : c.mem (sp_of t + 2 + 1) ≡ t.mem (sp_of t + 2 + 1) = c.fills (sp_of t + 2 + 1) ∙ kept_unfilled (ax_of t) (to_of t) (t.mem (sp_of t)) t.mem (sp_of t + 2 + 1) (λ k few. far.away k few (sp_of t + 2 + 1) (omega arith) (omega arith)) in
    let low_byte_is = may.bytes.mem (sp_of t + 2) in
    let high_byte_is = may.bytes.mem (sp_of t + 2 + 1) in
    let next : sp_of t + 2 + 1 ≡ sp_of t + 3 = omega arith in
    let to : State = record (called back t) { regs = record { a = t.mem (sp_of t); x = c.x; y = c.y; n = c.nf; v = t.regs.v; z = c.zf; c = t.regs.c }; zp = c.zp; mem = c.mem } in
    subst (λ (k : State). leads_round s.place (reach_of t) (Ends (memset_row t) t) B (5 ∷ 4 ∷ 3 ∷ 2 ∷ []) end_lines None k) (sym c.is)
    (onward_round s.place (reach_of t) (Ends (memset_row t) t) B end_lines (5 ∷ 4 ∷ 3 ∷ 2 ∷ []) refl None to
    (with_y_at s.place (reach_of t) (Ends (memset_row t) t) 3 (load_word_on (raise_by_number 4)) to (λ m w.
    load_word_at s.place (reach_of t) (Ends (memset_row t) t) (raise_by_number 4) (sp_of t + 2) (record to { regs = record to.regs { y = 3; n = m; z = w } }) (omega arith) (omega arith)
    (near.reach 2 k2) (reach_as s.place (reach_of t) (sp_of t + 2 + 1) (sp_of t + 3) next (near.reach 3 k3))
    (λ a x y n z is_a is_x. raise_by_at s.place (reach_of t) (Ends (memset_row t) t) 4 (record to { regs = record to.regs { a = a; x = x; y = y; n = n; z = z } }) (omega arith) (omega arith) (omega arith) (omega arith)
    (λ y n v z c' zp moved. let sp_is = moved.sp in ends_by (memset_row t) t (left (called back t) a x y n v z c' zp c.mem)
    ((12, t.regs.a) ∷ (13, t.regs.x) ∷ (11, t.mem (sp_of t + 2 + 1)) ∷ (10, t.mem (sp_of t + 2)) ∷ (9, c.zp 9) ∷ (11, c.zp 11) ∷ []) (record {
      zp = λ i two. moved.rest i two ∙ with_pages (pointed t) c.zp (λ k nine eleven. c.rest k eleven) i;
      fit = refl;
      small = (refl, refl, refl, refl, refl);
      low_kept = tt;
      high_kept = tt;
      a_kept = tt;
      x_kept = tt;
      sp = omega arith;
      a = is_a ∙ (low_kept ∙ sym (word_low (t.mem (sp_of t + 2)) (t.mem (sp_of t + 2 + 1)) low_byte_is));
      x = is_x ∙ (high_kept ∙ sym (word_high (t.mem (sp_of t + 2)) (t.mem (sp_of t + 2 + 1)) low_byte_is high_byte_is));
      sreg = tt;
      pointers = tt;
      bank = tt;
      mem = λ b h. c.fills b;
      input = refl;
      output = sym (append-nil t.output);
      ended = may.running;
    }))))))

memset_runs : (s : RawSetting) → s.lines (s.routine (routines.Library Memset)) ≡ memset_lines → (back : Place) (t : State) → MayRun s (memset_row t) t → Runs s (routines.Library Memset) (memset_row t) back t
memset_runs s has back t may =
    let soft = may.room.soft in
    let sp_high = may.high in
    let near : OpenBytes s.place (reach_of t) 4 (sp_of t) = opens_near s (memset_row t) 4 (sp_of t) t (omega arith) refl may in
    let far : OpenRange s (memset_row t) t (ax_of t) (to_of t) = opens_one s (memset_row t) (ax_of t) (to_of t) t refl may in
    let k0 : 0 < 4 = omega arith in
    let k2 : 2 < 4 = omega arith in
    let k3 : 3 < 4 = omega arith in
    let near_end : sp_of t + 3 < 65520 = near.below 3 k3 in
    let next : sp_of t + 2 + 1 ≡ sp_of t + 3 = omega arith in
    let j : Job = job_of back t in
    let low_count : t.regs.a < 256 = may.bytes.a in
    let job : IsJob s.place (reach_of t) j = record { to_bytes = far.bytes; number = refl; low = low_count } in
    let finish : Finish s.place (reach_of t) (Ends (memset_row t) t) end_lines j = finished s back t may near far in
    let many : length (range_of (ax_of t) (to_of t)) ≡ ax_of t = range_length (ax_of t) (to_of t) in
    runs_loops s (routines.Library Memset) (memset_row t) back t memset_lines has (Going j 24)
    (λ l n u g. behind_counted s.place (reach_of t) (Ends (memset_row t) t) (value Ldy 0 ∷ by_y Lda sp ∷ fill_on end_lines) (Going j 24) l n u
    (behind_line s.place (reach_of t) (Ends (memset_row t) t) _ _ _ _ (Going j 24) l n u (behind_line s.place (reach_of t) (Ends (memset_row t) t) _ _ _ _ (Going j 24) l n u
    (fill_round s.place (reach_of t) (Ends (memset_row t) t) end_lines j 24 job finish (λ m. omega arith) l n u g))))
    (24 * ax_of t + 54) (omega arith) refl may
    (counted_at s.place (reach_of t) (Ends (memset_row t) t) (λ i v. Going j 24 i (24 * ax_of t + 54) v) (value Ldy 0 ∷ by_y Lda sp ∷ fill_on end_lines) (sp_of t + 2) (called back t) (omega arith) (omega arith)
    (near.reach 2 k2) (reach_as s.place (reach_of t) (sp_of t + 2 + 1) (sp_of t + 3) next (near.reach 3 k3))
    (λ n z. top_at s.place (reach_of t) (Ends (memset_row t) t) (λ i v. Going j 24 i (24 * ax_of t + 54) v) (fill_on end_lines) (sp_of t) (counted_state (called back t) (t.mem (sp_of t + 2)) (t.mem (sp_of t + 2 + 1)) n z) (omega arith) (near.first k0)
    (λ n z. fill_begins s.place (reach_of t) (Ends (memset_row t) t) end_lines j 24 (24 * ax_of t + 54) t.regs.x n z job refl finish (omega arith))))

pub memset : (s : RawSetting) → s.lines (s.routine (routines.Library Memset)) ≡ lines_of (routines.Library Memset) → MeetsRow s (routines.Library Memset)
memset s has = meets_by s (routines.Library Memset) memset_row (λ t. refl) (memset_runs s has)
