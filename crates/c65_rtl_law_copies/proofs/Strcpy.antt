-- `strcpy` (C90 7.11.2.3)
use Rattle.std.proofs.Common.{◌≡◌, ◌≢◌, ℕ, ◌+◌, ◌*◌, ◌<◌, Bool, List, [], ◌∷◌, ◌++◌, None, length, refl, sym, subst, ◌∙◌, arith}
use Rattle.std.proofs.lemmas.List.{append-nil}
use Rattle.c65_code.specs.declared.routine.Routine.TheVariants as routines
use Rattle.c65_base.specs.declared.library.Library.TheVariants.{Strcpy}
use Rattle.c65_code.specs.declared.line.Line.{Line}
use Rattle.c65_code.specs.LineState.{Place, word_at, State, sp_of, ax_of}
use Rattle.c65_code.specs.Texts.{range_of, copy_length}
use Rattle.c65_code.specs.Rows.{Row, copy_row}
use Rattle.c65_code.specs.RawMachine.{RawSetting, called, MayRun, Runs, MeetsRow, reach_of}
use Rattle.c65_rtl.specs.Stack.{raise_two}
use Rattle.c65_rtl.specs.Routines.{lines_of}
use Rattle.c65_rtl.proofs.Ways.{Ends}
use Rattle.c65_rtl.proofs.Rounds.{leads_round, onward_round}
use Rattle.c65_rtl.proofs.Meeting.{ends_by}
use Rattle.c65_rtl.proofs.Opens.{OpenBytes, opens_near}
use Rattle.c65_rtl.proofs.SpPieces.{left, raise_two_at}
use Rattle.c65_rtl.proofs.SpMoves.{with_y_at}
use Rattle.c65_rtl.proofs.Pushes.{meets_by}
use Rattle.c65_rtl.proofs.Loads.{load_word_on, load_word_at, word_low, word_high}
use Rattle.c65_rtl_law_walks.proofs.Loops.{runs_loops}
use Rattle.c65_rtl_law_walks.proofs.Ranges.{OpenRanges, opens_both, ranges_length}
use Rattle.c65_rtl_law_copies.proofs.Copies.{Job, Reaches, before, begins}
use Rattle.c65_rtl_law_copies.proofs.Texts.{copy_text_on, FinishText, Going, Reading, length_is, reads_from, text_begins, text_round}
use Rattle.c65_rtl_law_copies.proofs.Copytos.{pointed_on, pointed, pointed_at, behind_pointed, top_lines}
use Rattle.c65_rtl_law_walks.proofs.Pages.{with_pages}
use Rattle.c65_rtl_law_copies.proofs.Kept.{kept_outside}

abbrev strcpy_lines : List Line
strcpy_lines = pointed_on (copy_text_on top_lines)

abbrev to_of : State → ℕ
to_of t = word_at t.mem (sp_of t)

-- the row, where so many bytes come before the zero
abbrev strcpy_row : ℕ → State → Row
strcpy_row length t = copy_row (routines.Library Strcpy) (length + 1) (to_of t) (ax_of t) 2 t

abbrev job_of : ℕ → Place → State → Job
job_of length back t = record { o = record (called back t) { zp = pointed t (t.mem (sp_of t)) (t.mem (sp_of t + 1)) }; to = to_of t; from = ax_of t; count = length + 1 }

finished : (s : RawSetting) (length : ℕ) (back : Place) (t : State) → MayRun s (strcpy_row length t) t → OpenBytes s.place (reach_of t) 2 (sp_of t) → OpenRanges s (strcpy_row length t) t (length + 1) (ax_of t) (length + 1) (to_of t)
    → FinishText s.place (reach_of t) (Ends (strcpy_row length t) t) top_lines (job_of length back t)
finished s length back t may near far B u c =
    let zero_is : c.zp 0 ≡ t.zp 0 = c.rest 0 (let other : 0 ≢ 9 = omega arith in other) (let other : 0 ≢ 11 = omega arith in other) in
    let one_is : c.zp 1 ≡ t.zp 1 = c.rest 1 (let other : 1 ≢ 9 = omega arith in other) (let other : 1 ≢ 11 = omega arith in other) in
    let low = may.bytes.zp 0 in
    let high = may.bytes.zp 1 in
    let k0 : 0 < 2 = omega arith in
    let k1 : 1 < 2 = omega arith in
    let near_end : sp_of t + 1 < 65520 = near.below 1 k1 in
    let soft = may.room.soft in
    let sp_high = may.high in
    let low_kept : c.mem (sp_of t) ≡ t.mem (sp_of t) = c.copies (sp_of t) ∙ kept_outside (length + 1) (to_of t) (ax_of t) t.mem (sp_of t) (λ k few. far.away k few (sp_of t) (omega arith) (omega arith)) in
    let high_kept : c.mem (sp_of t + 1) ≡ t.mem (sp_of t + 1) = c.copies (sp_of t + 1) ∙ kept_outside (length + 1) (to_of t) (ax_of t) t.mem (sp_of t + 1) (λ k few. far.away k few (sp_of t + 1) (omega arith) (omega arith)) in
    let low_byte_is = may.bytes.mem (sp_of t) in
    let high_byte_is = may.bytes.mem (sp_of t + 1) in
    let to : State = record (called back t) { regs = record { a = c.a; x = c.x; y = c.y; n = c.nf; v = t.regs.v; z = c.zf; c = t.regs.c }; zp = c.zp; mem = c.mem } in
    subst (λ (k : State). leads_round s.place (reach_of t) (Ends (strcpy_row length t) t) B (3 ∷ 2 ∷ []) top_lines None k) (sym c.is)
    (onward_round s.place (reach_of t) (Ends (strcpy_row length t) t) B top_lines (3 ∷ 2 ∷ []) refl None to
    (with_y_at s.place (reach_of t) (Ends (strcpy_row length t) t) 1 (load_word_on raise_two) to (λ m w.
    load_word_at s.place (reach_of t) (Ends (strcpy_row length t) t) raise_two (sp_of t) (record to { regs = record to.regs { y = 1; n = m; z = w } }) (omega arith) (omega arith) (near.first k0) (near.reach 1 k1)
    (λ a x y n z is_a is_x. raise_two_at s.place (reach_of t) (Ends (strcpy_row length t) t) (record to { regs = record to.regs { a = a; x = x; y = y; n = n; z = z } }) (omega arith) (omega arith) (omega arith)
    (λ y n v z c' zp moved. let sp_is = moved.sp in ends_by (strcpy_row length t) t (left (called back t) a x y n v z c' zp c.mem)
    ((8, t.regs.a) ∷ (9, t.regs.x) ∷ (11, t.mem (sp_of t + 1)) ∷ (10, t.mem (sp_of t)) ∷ (9, c.zp 9) ∷ (11, c.zp 11) ∷ []) (record {
      zp = λ i two. moved.rest i two ∙ with_pages (pointed t (t.mem (sp_of t)) (t.mem (sp_of t + 1))) c.zp c.rest i;
      fit = refl;
      small = (refl, refl, refl, refl, refl);
      low_kept = tt;
      high_kept = tt;
      a_kept = tt;
      x_kept = tt;
      sp = omega arith;
      a = is_a ∙ (low_kept ∙ sym (word_low (t.mem (sp_of t)) (t.mem (sp_of t + 1)) low_byte_is));
      x = is_x ∙ (high_kept ∙ sym (word_high (t.mem (sp_of t)) (t.mem (sp_of t + 1)) low_byte_is high_byte_is));
      sreg = tt;
      pointers = tt;
      bank = tt;
      mem = λ b h. c.copies b;
      input = refl;
      output = sym (append-nil t.output);
      ended = may.running;
    }))))))

strcpy_runs : (s : RawSetting) → s.lines (s.routine (routines.Library Strcpy)) ≡ strcpy_lines → (back : Place) (t : State) (count : ℕ) → count ≡ copy_length (to_of t) (ax_of t) t.mem → MayRun s (strcpy_row count t) t
    → Runs s (routines.Library Strcpy) (strcpy_row count t) back t
strcpy_runs s has back t count is may =
    let soft = may.room.soft in
    let sp_high = may.high in
    let near : OpenBytes s.place (reach_of t) 2 (sp_of t) = opens_near s (strcpy_row count t) 2 (sp_of t) t (omega arith) refl may in
    let far : OpenRanges s (strcpy_row count t) t (count + 1) (ax_of t) (count + 1) (to_of t) = opens_both s (strcpy_row count t) (count + 1) (ax_of t) (count + 1) (to_of t) t refl may in
    let k0 : 0 < 2 = omega arith in
    let k1 : 1 < 2 = omega arith in
    let near_end : sp_of t + 1 < 65520 = near.below 1 k1 in
    let end : ax_of t + count < 65520 = far.first.below count (omega arith) in
    let j : Job = job_of count back t in
    let reaches : Reaches s.place (reach_of t) j = record { from_bytes = far.first; to_bytes = far.second } in
    let finish : FinishText s.place (reach_of t) (Ends (strcpy_row count t) t) top_lines j = finished s count back t may near far in
    let many : length (range_of (count + 1) (ax_of t) ++ range_of (count + 1) (to_of t)) ≡ count + 1 + (count + 1) = ranges_length (count + 1) (ax_of t) (count + 1) (to_of t) in
    let reading : (n z : Bool) → Reading j count (before j (t.mem (sp_of t)) t.regs.x 0 n z) =
    λ n z. reads_from j 65536 count (before j (t.mem (sp_of t)) t.regs.x 0 n z) (omega arith) (omega arith) (length_is (to_of t) (ax_of t) t.mem ∙ sym is) (begins j (t.mem (sp_of t)) t.regs.x n z (record { from_is = refl; to_is = refl })) in
    runs_loops s (routines.Library Strcpy) (strcpy_row count t) back t strcpy_lines has (Going j)
    (λ l n u g. behind_pointed s.place (reach_of t) (Ends (strcpy_row count t) t) (copy_text_on top_lines) (Going j) l n u (text_round s.place (reach_of t) (Ends (strcpy_row count t) t) top_lines j reaches finish (λ m. omega arith) l n u g))
    (14 * count + 26) (omega arith) refl may
    (pointed_at s.place (reach_of t) (Ends (strcpy_row count t) t) (λ i v. Going j i (14 * count + 26) v) (copy_text_on top_lines) (sp_of t) (called back t) (omega arith) (omega arith) (near.first k0) (near.reach 1 k1)
    (λ n z. text_begins s.place (reach_of t) (Ends (strcpy_row count t) t) top_lines j count (14 * count + 26) (before j (t.mem (sp_of t)) t.regs.x 0 n z) reaches finish (reading n z) (omega arith)))

pub strcpy : (s : RawSetting) → s.lines (s.routine (routines.Library Strcpy)) ≡ lines_of (routines.Library Strcpy) → MeetsRow s (routines.Library Strcpy)
strcpy s has = meets_by s (routines.Library Strcpy) (λ t. strcpy_row (copy_length (to_of t) (ax_of t) t.mem) t) (λ t. refl) (λ back t may. strcpy_runs s has back t (copy_length (to_of t) (ax_of t) t.mem) refl may)
