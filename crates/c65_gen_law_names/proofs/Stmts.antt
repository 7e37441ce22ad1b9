-- The symbols of the lines of statements.
use Rattle.std.proofs.Common.{ℕ, ◌+◌, Bool, true, false, length}
use Rattle.c65_csem.specs.Trees.{Typed, MaybeTyped, absent, present, Stmt, empty, eval, set_part, clear, block, if_stmt, while, do_while, for_loop, switch, case, default, label, goto, break, continue, return, Stmts, no_stmts, and_stmts}
use Rattle.c65_csem.specs.Statements.{cases_of}
use Rattle.c65_code.specs.Segments.{Drafted}
use Rattle.c65_genframe.specs.Frames.{Framed}
use Rattle.c65_genwide.specs.Wide.{width_of}
use Rattle.c65_genexpr.specs.Types.{kind_in}
use Rattle.c65_genentry.specs.Drafts.{with_labels}
use Rattle.c65_genstmt.specs.declared.jumps.Ways.{Ways}
use Rattle.c65_genstmt.specs.Jumps.{following, with_value, with_test}
use Rattle.c65_genstmt.specs.Objects.{spot_of, object_bytes}
use Rattle.c65_genstmt.specs.Stmts.{case_behind, with_label, with_jump, two_given, three_given, with_maybe, with_effects, with_guard, ways, default_way, with_choice, with_stmt, with_stmts, with_last, with_lasts, is_empty, with_way, with_cases}
use Rattle.c65_gen_law_names.specs.Trees.{KnownMaybeTree, KnownStmt, KnownStmts, KnownTree}
use Rattle.c65_gen_law_names.proofs.Known.{AllKnown, known_then}
use Rattle.c65_gen_law_names.proofs.Entries.{choice_known}
use Rattle.c65_gen_law_names.proofs.Objects.{effect_put_known, set_known, spot_known, test_known, value_known, zeros_known}

label_known : (P : ℕ → Type 0) (l : ℕ) (d : Drafted) → AllKnown P d.lines → AllKnown P (with_label l d).lines
label_known P l d h = known_then h (record { all = tt })

jump_known : (P : ℕ → Type 0) (l : ℕ) (d : Drafted) → AllKnown P d.lines → AllKnown P (with_jump l d).lines
jump_known P l d h = known_then h (record { all = tt })

way_known : (P : ℕ → Type 0) (at : Bool) (l : ℕ) (d : Drafted) → AllKnown P d.lines → AllKnown P (with_way at l d).lines
way_known P true l d h = h
way_known P false l d h = jump_known P l d h

maybe_known : (P : ℕ → Type 0) (f : Framed) (e : MaybeTyped) (d : Drafted) → KnownMaybeTree P f e → AllKnown P d.lines → AllKnown P (with_maybe f e d).lines
maybe_known P f absent d tree h = h
maybe_known P f (present e) d tree h = value_known P f e d tree h

effects_known : (P : ℕ → Type 0) (f : Framed) (e : MaybeTyped) (d : Drafted) → KnownMaybeTree P f e → AllKnown P d.lines → AllKnown P (with_effects f e d).lines
effects_known P f absent d tree h = h
effects_known P f (present e) d tree h = effect_put_known P f e d tree h

guard_known : (P : ℕ → Type 0) (f : Framed) (to : ℕ) (e : MaybeTyped) (d : Drafted) → KnownMaybeTree P f e → AllKnown P d.lines → AllKnown P (with_guard f to e d).lines
guard_known P f to absent d tree h = h
guard_known P f to (present e) d tree h = test_known P f to false e d tree h

head_known : (P : ℕ → Type 0) (f : Framed) (e : Typed) (a : Stmt) (d : Drafted) → KnownTree P f e → AllKnown P d.lines → AllKnown P (with_choice f e a d).lines
head_known P f e a d tree h =
    let m : Drafted = with_labels (length (cases_of a)) (two_given d) in
    let g : Drafted = with_value f e m in
    let c : Drafted = with_cases (width_of (kind_in e)) (default_way a d.labels) (d.labels + 1 + 1) (cases_of a) g in
    let first : AllKnown P g.lines = value_known P f e m tree h in
    let chosen : AllKnown P c.lines = known_then first (choice_known P (width_of (kind_in e)) (default_way a d.labels) (d.labels + 1 + 1) g.labels (cases_of a)) in
    jump_known P (default_way a d.labels) c chosen

mutual
  stmt_known : (P : ℕ → Type 0) (f : Framed) (w : Ways) (l : ℕ) (s : Stmt) (d : Drafted) → KnownStmt P f s → AllKnown P d.lines → AllKnown P (with_stmt f w l s d).lines
  stmt_known P f w l empty d k h = h
  stmt_known P f w l (eval e) d k h = effect_put_known P f e d k h
  stmt_known P f w l (set_part i o e) d k h = set_known P f i o e d k.0 k.1 h
  stmt_known P f w l (clear i) d k h = zeros_known P (spot_of f i 0) (object_bytes f i) d (spot_known P f i 0 k) h
  stmt_known P f w l (block os ss) d k h = stmts_known P f w l ss d k h
  stmt_known P f w l (if_stmt e a b) d k h =
      let m1 : Drafted = with_test f d.labels false e (two_given d) in
      let m2 : Drafted = with_stmt f w l a m1 in
      let m3 : Drafted = with_way (is_empty b) (d.labels + 1) m2 in
      let m4 : Drafted = with_label d.labels m3 in
      let m5 : Drafted = with_stmt f w (case_behind l a) b m4 in
      let h1 : AllKnown P m1.lines = test_known P f d.labels false e (two_given d) k.0 h in
      let h2 : AllKnown P m2.lines = stmt_known P f w l a m1 k.1 h1 in
      let h4 : AllKnown P m4.lines = label_known P d.labels m3 (way_known P (is_empty b) (d.labels + 1) m2 h2) in
      label_known P (d.labels + 1) m5 (stmt_known P f w (case_behind l a) b m4 k.2 h4)
  stmt_known P f w l (while e a) d k h =
      let m1 : Drafted = with_label d.labels (two_given d) in
      let m2 : Drafted = with_test f (d.labels + 1) false e m1 in
      let inner : Ways = ways (d.labels + 1) d.labels w.other in
      let m3 : Drafted = with_stmt f inner l a m2 in
      let h2 : AllKnown P m2.lines = test_known P f (d.labels + 1) false e m1 k.0 (label_known P d.labels (two_given d) h) in
      label_known P (d.labels + 1) (with_jump d.labels m3) (jump_known P d.labels m3 (stmt_known P f inner l a m2 k.1 h2))
  stmt_known P f w l (do_while a e) d k h =
      let m1 : Drafted = with_label d.labels (three_given d) in
      let inner : Ways = ways (d.labels + 1 + 1) (d.labels + 1) w.other in
      let m2 : Drafted = with_stmt f inner l a m1 in
      let m3 : Drafted = with_label (d.labels + 1) m2 in
      let m4 : Drafted = with_test f d.labels true e m3 in
      let h2 : AllKnown P m2.lines = stmt_known P f inner l a m1 k.0 (label_known P d.labels (three_given d) h) in
      label_known P (d.labels + 1 + 1) m4 (test_known P f d.labels true e m3 k.1 (label_known P (d.labels + 1) m2 h2))
  stmt_known P f w l (for_loop i t s a) d k h =
      let g : Drafted = with_effects f i d in
      let m1 : Drafted = with_label g.labels (three_given g) in
      let m2 : Drafted = with_guard f (g.labels + 1 + 1) t m1 in
      let inner : Ways = ways (g.labels + 1 + 1) (g.labels + 1) w.other in
      let m3 : Drafted = with_stmt f inner l a m2 in
      let m4 : Drafted = with_label (g.labels + 1) m3 in
      let m5 : Drafted = with_effects f s m4 in
      let h0 : AllKnown P g.lines = effects_known P f i d k.0 h in
      let h2 : AllKnown P m2.lines = guard_known P f (g.labels + 1 + 1) t m1 k.1 (label_known P g.labels (three_given g) h0) in
      let h3 : AllKnown P m3.lines = stmt_known P f inner l a m2 k.3 h2 in
      let h5 : AllKnown P m5.lines = effects_known P f s m4 k.2 (label_known P (g.labels + 1) m3 h3) in
      label_known P (g.labels + 1 + 1) (with_jump g.labels m5) (jump_known P g.labels m5 h5)
  stmt_known P f w l (switch e a) d k h =
      let m1 : Drafted = with_choice f e a d in
      let inner : Ways = ways d.labels w.onward (d.labels + 1) in
      let m2 : Drafted = with_stmt f inner (d.labels + 1 + 1) a m1 in
      label_known P d.labels m2 (stmt_known P f inner (d.labels + 1 + 1) a m1 k.1 (head_known P f e a d k.0 h))
  stmt_known P f w l (case z a) d k h = stmt_known P f w (following l) a (with_label l d) k (label_known P l d h)
  stmt_known P f w l (default a) d k h = stmt_known P f w l a (with_label w.other d) k (label_known P w.other d h)
  stmt_known P f w l (label i a) d k h = stmt_known P f w l a (with_label (following i) d) k (label_known P (following i) d h)
  stmt_known P f w l (goto i) d k h = jump_known P (following i) d h
  stmt_known P f w l break d k h = jump_known P w.behind d h
  stmt_known P f w l continue d k h = jump_known P w.onward d h
  stmt_known P f w l (return e) d k h = jump_known P 0 (with_maybe f e d) (maybe_known P f e d k h)

  stmts_known : (P : ℕ → Type 0) (f : Framed) (w : Ways) (l : ℕ) (ss : Stmts) (d : Drafted) → KnownStmts P f ss → AllKnown P d.lines → AllKnown P (with_stmts f w l ss d).lines
  stmts_known P f w l no_stmts d k h = h
  stmts_known P f w l (and_stmts a ss) d k h = stmts_known P f w (case_behind l a) ss (with_stmt f w l a d) k.1 (stmt_known P f w l a d k.0 h)

-- ---- what stands last

mutual
  pub last_known : (P : ℕ → Type 0) (f : Framed) (w : Ways) (l : ℕ) (s : Stmt) (d : Drafted) → KnownStmt P f s → AllKnown P d.lines → AllKnown P (with_last f w l s d).lines
  last_known P f w l (block os ss) d k h = lasts_known P f w l ss d k h
  last_known P f w l (return e) d k h = maybe_known P f e d k h
  last_known P f w l a d k h = stmt_known P f w l a d k h

  lasts_known : (P : ℕ → Type 0) (f : Framed) (w : Ways) (l : ℕ) (ss : Stmts) (d : Drafted) → KnownStmts P f ss → AllKnown P d.lines → AllKnown P (with_lasts f w l ss d).lines
  lasts_known P f w l no_stmts d k h = h
  lasts_known P f w l (and_stmts a no_stmts) d k h = last_known P f w l a d k.0 h
  lasts_known P f w l (and_stmts a (and_stmts b ss)) d k h = lasts_known P f w (case_behind l a) (and_stmts b ss) (with_stmt f w l a d) k.1 (stmt_known P f w l a d k.0 h)
