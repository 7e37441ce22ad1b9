-- The bytes of statements and functions, by their nodes.
use Rattle.std.specs.Prelude.{◌&&◌}
use Rattle.std.proofs.Common.{ℕ, ◌+◌, ◌*◌, ◌%◌, ◌≤◌, Bool, true, false, not, ℤ, List, [], ◌∷◌, length, arith}
use Rattle.std.proofs.lemmas.List.{length-append}
use Rattle.c65_csem.specs.Trees.{Typed, MaybeTyped, absent, present, Stmt, empty, eval, set_part, clear, block, if_stmt, while, do_while, for_loop, switch, case, default, label, goto, break, continue, return, Stmts, no_stmts, and_stmts}
use Rattle.c65_csem.specs.Places.{is_tag}
use Rattle.c65_csem.specs.Statements.{cases_of, cases_in}
use Rattle.c65_mach.specs.declared.rows.Op.TheVariants.{Jmp, Sta, Stx}
use Rattle.c65_code.specs.declared.line.Line.{Line}
use Rattle.c65_code.specs.declared.line.Line.TheVariants.{Label}
use Rattle.c65_code.specs.Segments.{Drafted}
use Rattle.c65_code.specs.Weights.{lines_size}
use Rattle.c65_genframe.specs.Frames.{Framed, type_bytes}
use Rattle.c65_genwide.specs.Lines.{with_lines}
use Rattle.c65_genwide.specs.Wide.{width_of}
use Rattle.c65_genload.specs.Conversions.{size_of}
use Rattle.c65_genload.specs.declared.places.Access.TheVariants.{Whole}
use Rattle.c65_genexpr.specs.declared.wanted.Wanted.TheVariants.{Value, Test}
use Rattle.c65_genexpr.specs.Types.{kind_in, bare}
use Rattle.c65_genexpr.specs.Code.{expr_code}
use Rattle.c65_genentry.specs.Drafts.{with_labels}
use Rattle.c65_genentry.specs.Words.{ptr1, ptr2, zero_page, jump, with_code}
use Rattle.c65_genentry.specs.Bytes.{block_labels}
use Rattle.c65_genentry.specs.Bytes as blocks
use Rattle.c65_genentry.specs.Pointers as pointers
use Rattle.c65_genentry.specs.Entry.{entry_code}
use Rattle.c65_genentry.specs.Ends.{end_code}
use Rattle.c65_genentry.specs.Choice.{choice_code, choice_labels}
use Rattle.c65_genstmt.specs.declared.jumps.Ways.{Ways}
use Rattle.c65_genstmt.specs.declared.objects.Spot.{Spot}
use Rattle.c65_genstmt.specs.declared.objects.Spot.TheVariants.{Bank, Soft, Data}
use Rattle.c65_geneffect.specs.Effects.{effect_code}
use Rattle.c65_genstmt.specs.Jumps.{following, with_value, with_effect, with_test}
use Rattle.c65_genstmt.specs.Objects.{spot_of, object_bytes, point_code, stored_code, with_copied, with_kept, with_zeros}
use Rattle.c65_genstmt.specs.Stmts.{case_behind, with_label, with_jump, two_given, three_given, with_maybe, with_effects, with_guard, ways, default_way, with_stmt, with_stmts, with_last, with_lasts, returns_last, is_empty, with_way, with_cases}
use Rattle.c65_genstmt.specs.Cases.{room_of}
use Rattle.c65_genstmt.specs.Functions.{main_code, no_lines}
use Rattle.c65_gen_law_lines.specs.Bulk.{nodes, maybe_nodes, statement_nodes, statements_nodes}
use Rattle.c65_gen_law_lines.specs.Laws.{FunctionsAreSmall}
use Rattle.c65_gen_law_lines.proofs.Made.{size-append}
use Rattle.c65_gen_law_lines.proofs.ExprLaws.{expr_made}
use Rattle.c65_gen_law_lines.proofs.EffectLaws.{effect_made}
use Rattle.c65_gen_law_lines.proofs.FrameLaws.{frames_are_small}
use Rattle.c65_gen_law_lines.proofs.Sizes.{Takes, choice_size, point_size, stored_size, bank_clear_size, clear_size, copy_size, entry_size, end_size, main_size}

-- between two drafts stand lines of at most so many bytes
record Grows (k : ℕ) (d e : Drafted) : Type 0 where
  size : lines_size e.lines ≤ lines_size d.lines + k

grows_then : {j k : ℕ} {d e g : Drafted} → Grows j d e → Grows k e g → Grows (j + k) d g
grows_then p q = record { size = omega (arith, p.size, q.size) }

grows_wider : {j k : ℕ} {d e : Drafted} → Grows j d e → j ≤ k → Grows k d e
grows_wider p le = record { size = omega (arith, p.size, le) }

grows_same : {d : Drafted} → Grows 0 d d
grows_same = record { size = omega arith }

grows_lines : (k : ℕ) (d : Drafted) (a : List Line) → Takes k a → Grows k d (with_lines d a)
grows_lines k d a p = record { size = omega (arith, size-append d.lines a, p.size) }

grows_code : (k n : ℕ) (d : Drafted) (a : List Line) → Takes k a → Grows k d (with_code n a d)
grows_code k n d a p = record { size = omega (arith, size-append d.lines a, p.size) }

value_grows : (f : Framed) (e : Typed) (d : Drafted) → Grows (128 * nodes e) d (with_value f e d)
value_grows f e d = record { size = omega (arith, size-append d.lines (expr_code f 0 d.labels Value e), (expr_made f 0 d.labels Value e).size) }

effect_grows : (f : Framed) (e : Typed) (d : Drafted) → Grows (128 * nodes e) d (with_effect f e d)
effect_grows f e d = record { size = omega (arith, size-append d.lines (effect_code f 0 d.labels e), (effect_made f 0 d.labels e).size) }

label_grows : (l : ℕ) (d : Drafted) → Grows 0 d (with_label l d)
label_grows l d = record { size = omega (arith, size-append d.lines (Label l ∷ [])) }

jump_grows : (l : ℕ) (d : Drafted) → Grows 3 d (with_jump l d)
jump_grows l d = record { size = omega (arith, size-append d.lines (jump Jmp l ∷ [])) }

way_grows : (at : Bool) (l : ℕ) (d : Drafted) → Grows 3 d (with_way at l d)
way_grows true l d = grows_wider grows_same (omega arith)
way_grows false l d = jump_grows l d

test_grows : (f : Framed) (to : ℕ) (s : Bool) (e : Typed) (d : Drafted) → Grows (128 * nodes e) d (with_test f to s e d)
test_grows f to s e d = record { size = omega (arith, size-append d.lines (expr_code f 0 d.labels (Test to s) e), (expr_made f 0 d.labels (Test to s) e).size) }

-- ---- objects

copied_grows : (spot : Spot) (bytes : ℕ) (d : Drafted) → Grows 53 d (with_copied spot bytes d)
copied_grows spot bytes d =
    let a : Drafted = with_lines d (zero_page Sta ptr1 ∷ zero_page Stx (ptr1 + 1) ∷ []) in
    let b : Drafted = with_lines a (point_code ptr2 spot) in
    let first : Grows 4 d a = record { size = omega (arith, size-append d.lines (zero_page Sta ptr1 ∷ zero_page Stx (ptr1 + 1) ∷ [])) } in
    grows_then first (grows_then (grows_lines 13 a (point_code ptr2 spot) (point_size ptr2 spot)) (grows_code 36 (block_labels (bytes % 65536)) b (blocks.copy_code (bytes % 65536) d.labels) (copy_size (bytes % 65536) d.labels)))

kept_grows : (tagged : Bool) (f : Framed) (spot : Spot) (e : Typed) (d : Drafted) → Grows 53 d (with_kept tagged f spot e d)
kept_grows true f spot e d = copied_grows spot (type_bytes f (bare e)) d
kept_grows false f spot e d = grows_wider (grows_lines 38 d (stored_code spot (Whole (kind_in e)) (size_of (kind_in e))) (stored_size spot (kind_in e) (size_of (kind_in e)))) (omega arith)

cleared_grows : (j : ℕ) (pointer : List Line) (bytes : ℕ) (d : Drafted) → Takes j pointer → Grows (j + 38) d (with_code (block_labels bytes) (blocks.clear_code bytes d.labels) (with_lines d pointer))
cleared_grows j pointer bytes d p = grows_then (grows_lines j d pointer p) (grows_code 38 (block_labels bytes) (with_lines d pointer) (blocks.clear_code bytes d.labels) (clear_size bytes d.labels))

zeros_grows : (spot : Spot) (bytes : ℕ) (d : Drafted) → Grows 51 d (with_zeros spot bytes d)
zeros_grows (Bank bank) bytes d = grows_wider (grows_lines 6 d (pointers.clear_code bank bytes) (bank_clear_size bank bytes)) (omega arith)
zeros_grows (Soft at) bytes d = cleared_grows 13 (pointers.near_code ptr1 at) (bytes % 65536) d (point_size ptr1 (Soft at))
zeros_grows (Data sym at) bytes d = cleared_grows 13 (pointers.symbol_code ptr1 sym at) (bytes % 65536) d (point_size ptr1 (Data sym at))

-- ---- statements

maybe_grows : (f : Framed) (e : MaybeTyped) (d : Drafted) → Grows (128 * maybe_nodes e) d (with_maybe f e d)
maybe_grows f absent d = grows_same
maybe_grows f (present e) d = value_grows f e d

effects_grows : (f : Framed) (e : MaybeTyped) (d : Drafted) → Grows (128 * maybe_nodes e) d (with_effects f e d)
effects_grows f absent d = grows_same
effects_grows f (present e) d = effect_grows f e d

guard_grows : (f : Framed) (to : ℕ) (e : MaybeTyped) (d : Drafted) → Grows (128 * maybe_nodes e) d (with_guard f to e d)
guard_grows f to absent d = grows_same
guard_grows f to (present e) d = test_grows f to false e d

-- the bytes of a statement, while its case labels keep room for their tests, and the function for its entry and its end
record Within (s : Stmt) (d e : Drafted) : Type 0 where
  size : lines_size e.lines + 32 * length (cases_of s) + 71 ≤ lines_size d.lines + 128 * statement_nodes s

record AllWithin (ss : Stmts) (d e : Drafted) : Type 0 where
  size : lines_size e.lines + 32 * length (cases_in ss) ≤ lines_size d.lines + 128 * statements_nodes ss

mutual
  stmt_small : (f : Framed) (w : Ways) (l : ℕ) (s : Stmt) (d : Drafted) → Within s d (with_stmt f w l s d)
  stmt_small f w l empty d = record { size = omega arith }
  stmt_small f w l (eval e) d = record { size = omega (arith, (effect_grows f e d).size) }
  stmt_small f w l (set_part i o e) d =
      let v : Drafted = with_value f e d in
      record { size = omega (arith, (value_grows f e d).size, (kept_grows (is_tag (bare e)) f (spot_of f i o) e v).size) }
  stmt_small f w l (clear i) d = record { size = omega (arith, (zeros_grows (spot_of f i 0) (object_bytes f i) d).size) }
  stmt_small f w l (block os ss) d = record { size = omega (arith, (stmts_small f w l ss d).size) }
  stmt_small f w l (if_stmt e a b) d =
      let m1 : Drafted = with_test f d.labels false e (two_given d) in
      let m2 : Drafted = with_stmt f w l a m1 in
      let m3 : Drafted = with_way (is_empty b) (d.labels + 1) m2 in
      let m4 : Drafted = with_label d.labels m3 in
      let m5 : Drafted = with_stmt f w (case_behind l a) b m4 in
      record { size = omega (arith, (test_grows f d.labels false e (two_given d)).size, (stmt_small f w l a m1).size, (way_grows (is_empty b) (d.labels + 1) m2).size, (label_grows d.labels m3).size, (stmt_small f w (case_behind l a) b m4).size, (label_grows (d.labels + 1) m5).size, length-append (cases_of a) (cases_of b)) }
  stmt_small f w l (while e a) d =
      let m1 : Drafted = with_label d.labels (two_given d) in
      let m2 : Drafted = with_test f (d.labels + 1) false e m1 in
      let inner : Ways = ways (d.labels + 1) d.labels w.other in
      let m3 : Drafted = with_stmt f inner l a m2 in
      let m4 : Drafted = with_jump d.labels m3 in
      record { size = omega (arith, (label_grows d.labels (two_given d)).size, (test_grows f (d.labels + 1) false e m1).size, (stmt_small f inner l a m2).size, (jump_grows d.labels m3).size, (label_grows (d.labels + 1) m4).size) }
  stmt_small f w l (do_while a e) d =
      let m1 : Drafted = with_label d.labels (three_given d) in
      let inner : Ways = ways (d.labels + 1 + 1) (d.labels + 1) w.other in
      let m2 : Drafted = with_stmt f inner l a m1 in
      let m3 : Drafted = with_label (d.labels + 1) m2 in
      let m4 : Drafted = with_test f d.labels true e m3 in
      record { size = omega (arith, (label_grows d.labels (three_given d)).size, (stmt_small f inner l a m1).size, (label_grows (d.labels + 1) m2).size, (test_grows f d.labels true e m3).size, (label_grows (d.labels + 1 + 1) m4).size) }
  stmt_small f w l (for_loop i t n a) d =
      let g : Drafted = with_effects f i d in
      let m1 : Drafted = with_label g.labels (three_given g) in
      let m2 : Drafted = with_guard f (g.labels + 1 + 1) t m1 in
      let inner : Ways = ways (g.labels + 1 + 1) (g.labels + 1) w.other in
      let m3 : Drafted = with_stmt f inner l a m2 in
      let m4 : Drafted = with_label (g.labels + 1) m3 in
      let m5 : Drafted = with_effects f n m4 in
      let m6 : Drafted = with_jump g.labels m5 in
      record { size = omega (arith, (effects_grows f i d).size, (label_grows g.labels (three_given g)).size, (guard_grows f (g.labels + 1 + 1) t m1).size, (stmt_small f inner l a m2).size, (label_grows (g.labels + 1) m3).size, (effects_grows f n m4).size, (jump_grows g.labels m5).size, (label_grows (g.labels + 1 + 1) m6).size) }
  stmt_small f w l (switch e a) d =
      let cases : List ℤ = cases_of a in
      let m0 : Drafted = with_labels (length cases) (two_given d) in
      let g : Drafted = with_value f e m0 in
      let m1 : Drafted = with_cases (width_of (kind_in e)) (default_way a d.labels) (d.labels + 1 + 1) cases g in
      let m2 : Drafted = with_jump (default_way a d.labels) m1 in
      let inner : Ways = ways d.labels w.onward (d.labels + 1) in
      let m3 : Drafted = with_stmt f inner (d.labels + 1 + 1) a m2 in
      let choice : Grows (7 + 32 * length cases) g m1 = grows_code (7 + 32 * length cases) (choice_labels (width_of (kind_in e)) cases) g (choice_code (width_of (kind_in e)) (default_way a d.labels) (d.labels + 1 + 1) g.labels cases) (choice_size (width_of (kind_in e)) (default_way a d.labels) (d.labels + 1 + 1) g.labels cases) in
      record { size = omega (arith, (value_grows f e m0).size, choice.size, (jump_grows (default_way a d.labels) m1).size, (stmt_small f inner (d.labels + 1 + 1) a m2).size, (label_grows d.labels m3).size) }
  stmt_small f w l (case z a) d = record { size = omega (arith, (label_grows l d).size, (stmt_small f w (following l) a (with_label l d)).size) }
  stmt_small f w l (default a) d = record { size = omega (arith, (label_grows w.other d).size, (stmt_small f w l a (with_label w.other d)).size) }
  stmt_small f w l (label n a) d = record { size = omega (arith, (label_grows (following n) d).size, (stmt_small f w l a (with_label (following n) d)).size) }
  stmt_small f w l (goto n) d = record { size = omega (arith, (jump_grows (following n) d).size) }
  stmt_small f w l break d = record { size = omega (arith, (jump_grows w.behind d).size) }
  stmt_small f w l continue d = record { size = omega (arith, (jump_grows w.onward d).size) }
  stmt_small f w l (return e) d = record { size = omega (arith, (maybe_grows f e d).size, (jump_grows 0 (with_maybe f e d)).size) }

  stmts_small : (f : Framed) (w : Ways) (l : ℕ) (ss : Stmts) (d : Drafted) → AllWithin ss d (with_stmts f w l ss d)
  stmts_small f w l no_stmts d = record { size = omega arith }
  stmts_small f w l (and_stmts a ss) d =
      let m : Drafted = with_stmt f w l a d in
      record { size = omega (arith, (stmt_small f w l a d).size, (stmts_small f w (case_behind l a) ss m).size, length-append (cases_of a) (cases_in ss)) }

mutual
  last_small : (f : Framed) (w : Ways) (l : ℕ) (s : Stmt) (d : Drafted) → Within s d (with_last f w l s d)
  last_small f w l (block os ss) d = record { size = omega (arith, (lasts_small f w l ss d).size) }
  last_small f w l (return e) d = record { size = omega (arith, (maybe_grows f e d).size) }
  last_small f w l a d = stmt_small f w l a d

  lasts_small : (f : Framed) (w : Ways) (l : ℕ) (ss : Stmts) (d : Drafted) → AllWithin ss d (with_lasts f w l ss d)
  lasts_small f w l no_stmts d = record { size = omega arith }
  lasts_small f w l (and_stmts a no_stmts) d = record { size = omega (arith, (last_small f w l a d).size, length-append (cases_of a) []) }
  lasts_small f w l (and_stmts a (and_stmts b ss)) d =
      let m : Drafted = with_stmt f w l a d in
      record { size = omega (arith, (stmt_small f w l a d).size, (lasts_small f w (case_behind l a) (and_stmts b ss) m).size, length-append (cases_of a) (cases_in (and_stmts b ss))) }

-- ---- functions

pub functions_are_small : FunctionsAreSmall
functions_are_small parts modes g body f is_main out framed =
    let frame : (f.soft ≤ 1025) × (f.stacked ≤ 1024) × (length f.moved ≤ length g.params) = frames_are_small parts modes g f framed in
    let d : Drafted = with_labels (room_of body) (with_labels 1 (no_lines out)) in
    let m0 : Drafted = with_lines d (entry_code f) in
    let m1 : Drafted = with_last f (ways 0 0 0) 0 body m0 in
    let first : Bool = is_main && not (returns_last body) in
    let m2 : Drafted = with_lines m1 (main_code first) in
    let m3 : Drafted = with_label 0 m2 in
    omega (arith, (grows_lines (105 + 19 * length f.moved) d (entry_code f) (entry_size f frame.0)).size, (last_small f (ways 0 0 0) 0 body m0).size, (grows_lines 4 m1 (main_code first) (main_size first)).size, (label_grows 0 m2).size, (grows_lines 90 m3 (end_code f) (end_size f frame.0 (omega (arith, frame.1)))).size, frame.2)
