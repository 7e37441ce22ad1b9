-- The lines of well typed statements.
use Rattle.std.proofs.Common.{◌≡◌, ℕ, ◌+◌, ◌<◌, ◌≤◌, ◌^◌, Bool, true, false, [], ◌∷◌, length, refl, arith}
use Rattle.std.specs.Prelude.{if◌then◌else◌}
use Rattle.std.proofs.lemmas.Option.{slice_get_within}
use Rattle.c65_csem.specs.Trees.{Typed, MaybeTyped, absent, present, Stmt, empty, eval, set_part, clear, block, if_stmt, while, do_while, for_loop, switch, case, default, label, goto, break, continue, return, Stmts, no_stmts, and_stmts, UnitTy}
use Rattle.c65_csem.specs.Typed.{IsTyped}
use Rattle.c65_csem.specs.Statements.{cases_of, Context, looping, switching, IsStmt, AreStmts, IsMaybe, IsMaybeCondition, IsReturn}
use Rattle.c65_mach.specs.declared.rows.Op.TheVariants.{Jmp}
use Rattle.c65_code.specs.declared.line.Line.TheVariants.{Label}
use Rattle.c65_code.specs.Segments.{Drafted}
use Rattle.c65_genframe.specs.Frames.{Framed}
use Rattle.c65_genwide.specs.Wide.{width_of}
use Rattle.c65_genexpr.specs.Types.{kind_in}
use Rattle.c65_genentry.specs.Drafts.{with_labels}
use Rattle.c65_genentry.specs.Words.{jump}
use Rattle.c65_genstmt.specs.declared.jumps.Ways.{Ways}
use Rattle.c65_genstmt.specs.Jumps.{following, with_value, with_test}
use Rattle.c65_genstmt.specs.Objects.{spot_of, object_bytes}
use Rattle.c65_genstmt.specs.Cases.{has_default}
use Rattle.c65_genstmt.specs.Stmts.{case_behind, case_behind_all, with_label, with_jump, two_given, three_given, with_maybe, with_effects, with_guard, ways, default_way, with_choice, with_stmt, with_stmts, with_last, with_lasts, is_empty, with_way, with_cases}
use Rattle.c65_asm_law.proofs.Well.{AllWell, well_append}
use Rattle.c65_asm_law.proofs.Known.{Knows}
use Rattle.c65_asm_law.proofs.Entries.{choice_well}
use Rattle.c65_asm_law.proofs.Objects.{value_well, effect_put_well, returned_well, test_well, spot_well, set_grows, set_well, zeros_grow, zeros_well}

-- where jumps lead
pub record WellWays (w : Ways) : Type 0 where
  pub behind : w.behind < 2 ^ 32
  pub onward : w.onward < 2 ^ 32
  pub other : w.other < 2 ^ 32

label_well : (n l : ℕ) (d : Drafted) → l < 2 ^ 32 → AllWell n d.lines → AllWell n (with_label l d).lines
label_well n l d low h = well_append n d.lines (Label l ∷ []) h (record { all = (low, tt) })

jump_well : (n l : ℕ) (d : Drafted) → l < 2 ^ 32 → AllWell n d.lines → AllWell n (with_jump l d).lines
jump_well n l d low h = well_append n d.lines (jump Jmp l ∷ []) h (record { all = ((tt, low), tt) })

way_well : (n : ℕ) (at : Bool) (l : ℕ) (d : Drafted) → l < 2 ^ 32 → AllWell n d.lines → AllWell n (with_way at l d).lines
way_well n true l d low h = h
way_well n false l d low h = jump_well n l d low h

-- ---- labels are given and never taken back

maybe_grows : (f : Framed) (e : MaybeTyped) (d : Drafted) → d.labels ≤ (with_maybe f e d).labels
maybe_grows f absent d = omega arith
maybe_grows f (present e) d = omega arith

effects_grow : (f : Framed) (e : MaybeTyped) (d : Drafted) → d.labels ≤ (with_effects f e d).labels
effects_grow f absent d = omega arith
effects_grow f (present e) d = omega arith

way_labels : (at : Bool) (l : ℕ) (d : Drafted) → (with_way at l d).labels ≡ d.labels
way_labels true l d = refl
way_labels false l d = refl

guard_grows : (f : Framed) (to : ℕ) (e : MaybeTyped) (d : Drafted) → d.labels ≤ (with_guard f to e d).labels
guard_grows f to absent d = omega arith
guard_grows f to (present e) d = omega arith

mutual
  pub stmt_grows : (f : Framed) (w : Ways) (l : ℕ) (s : Stmt) (d : Drafted) → d.labels ≤ (with_stmt f w l s d).labels
  stmt_grows f w l empty d = omega arith
  stmt_grows f w l (eval e) d = omega arith
  stmt_grows f w l (set_part i o e) d = set_grows f i o e d
  stmt_grows f w l (clear i) d = zeros_grow (spot_of f i 0) (object_bytes f i) d
  stmt_grows f w l (block os ss) d = stmts_grow f w l ss d
  stmt_grows f w l (if_stmt e a b) d =
      let m1 : Drafted = with_test f d.labels false e (two_given d) in
      let m2 : Drafted = with_stmt f w l a m1 in
      omega (arith, stmt_grows f w l a m1, way_labels (is_empty b) (d.labels + 1) m2, stmt_grows f w (case_behind l a) b (with_label d.labels (with_way (is_empty b) (d.labels + 1) m2)))
  stmt_grows f w l (while e a) d = omega (arith, stmt_grows f (ways (d.labels + 1) d.labels w.other) l a (with_test f (d.labels + 1) false e (with_label d.labels (two_given d))))
  stmt_grows f w l (do_while a e) d = omega (arith, stmt_grows f (ways (d.labels + 1 + 1) (d.labels + 1) w.other) l a (with_label d.labels (three_given d)))
  stmt_grows f w l (for_loop i c n a) d =
      let g : Drafted = with_effects f i d in
      let t : Drafted = with_guard f (g.labels + 1 + 1) c (with_label g.labels (three_given g)) in
      let body : Drafted = with_stmt f (ways (g.labels + 1 + 1) (g.labels + 1) w.other) l a t in
      omega (arith, effects_grow f i d, guard_grows f (g.labels + 1 + 1) c (with_label g.labels (three_given g)), stmt_grows f (ways (g.labels + 1 + 1) (g.labels + 1) w.other) l a t, effects_grow f n (with_label (g.labels + 1) body))
  stmt_grows f w l (switch e a) d = omega (arith, stmt_grows f (ways d.labels w.onward (d.labels + 1)) (d.labels + 1 + 1) a (with_choice f e a d))
  stmt_grows f w l (case z a) d = stmt_grows f w (following l) a (with_label l d)
  stmt_grows f w l (default a) d = stmt_grows f w l a (with_label w.other d)
  stmt_grows f w l (label n a) d = stmt_grows f w l a (with_label (following n) d)
  stmt_grows f w l (goto n) d = omega arith
  stmt_grows f w l break d = omega arith
  stmt_grows f w l continue d = omega arith
  stmt_grows f w l (return e) d = maybe_grows f e d

  stmts_grow : (f : Framed) (w : Ways) (l : ℕ) (ss : Stmts) (d : Drafted) → d.labels ≤ (with_stmts f w l ss d).labels
  stmts_grow f w l no_stmts d = omega arith
  stmts_grow f w l (and_stmts a ss) d = omega (arith, stmt_grows f w l a d, stmts_grow f w (case_behind l a) ss (with_stmt f w l a d))

-- and so it is with what stands last
mutual
  last_grows : (f : Framed) (w : Ways) (l : ℕ) (s : Stmt) (d : Drafted) → d.labels ≤ (with_last f w l s d).labels
  last_grows f w l (block os ss) d = lasts_grow f w l ss d
  last_grows f w l (return e) d = maybe_grows f e d
  last_grows f w l a d = stmt_grows f w l a d

  lasts_grow : (f : Framed) (w : Ways) (l : ℕ) (ss : Stmts) (d : Drafted) → d.labels ≤ (with_lasts f w l ss d).labels
  lasts_grow f w l no_stmts d = omega arith
  lasts_grow f w l (and_stmts a no_stmts) d = last_grows f w l a d
  lasts_grow f w l (and_stmts a (and_stmts b ss)) d = omega (arith, stmt_grows f w l a d, lasts_grow f w (case_behind l a) (and_stmts b ss) (with_stmt f w l a d))

-- ---- labels of cases

mutual
  behind_low : (l : ℕ) (s : Stmt) → l < 2 ^ 32 → case_behind l s < 2 ^ 32
  behind_low l (block os ss) low = all_behind_low l ss low
  behind_low l (if_stmt e a b) low = behind_low (case_behind l a) b (behind_low l a low)
  behind_low l (while e a) low = behind_low l a low
  behind_low l (do_while a e) low = behind_low l a low
  behind_low l (for_loop i c n a) low = behind_low l a low
  behind_low l (case z a) low = behind_low (following l) a (omega arith)
  behind_low l (default a) low = behind_low l a low
  behind_low l (label n a) low = behind_low l a low
  behind_low l _ low = low

  all_behind_low : (l : ℕ) (ss : Stmts) → l < 2 ^ 32 → case_behind_all l ss < 2 ^ 32
  all_behind_low l no_stmts low = low
  all_behind_low l (and_stmts a ss) low = all_behind_low (case_behind l a) ss (behind_low l a low)

-- ---- parts of statements

effects_well : (n : ℕ) (u : UnitTy) (f : Framed) (e : MaybeTyped) (d : Drafted) → Knows f u n → IsMaybe u e → (with_effects f e d).labels ≤ 2 ^ 32 → AllWell n d.lines → AllWell n (with_effects f e d).lines
effects_well n u f absent d knows typed few h = h
effects_well n u f (present e) d knows typed few h = effect_put_well n u f e d knows typed few h

guard_well : (n : ℕ) (u : UnitTy) (f : Framed) (to : ℕ) (e : MaybeTyped) (d : Drafted) → Knows f u n → IsMaybeCondition u e → to < 2 ^ 32 → (with_guard f to e d).labels ≤ 2 ^ 32 → AllWell n d.lines → AllWell n (with_guard f to e d).lines
guard_well n u f to absent d knows typed low few h = h
guard_well n u f to (present e) d knows typed low few h = test_well n u f to false e d knows typed.0 low few h

given_well : (n : ℕ) (u : UnitTy) (c : Context) (f : Framed) (e : MaybeTyped) (d : Drafted) → Knows f u n → IsReturn u c e → (with_maybe f e d).labels ≤ 2 ^ 32 → AllWell n d.lines → AllWell n (with_maybe f e d).lines
given_well n u c f absent d knows typed few h = h
given_well n u c f (present e) d knows typed few h = returned_well n u f e d knows typed.0 few h

default_low : (end : ℕ) (b : Bool) → end + 1 < 2 ^ 32 → (if b then end + 1 else end) < 2 ^ 32
default_low end true few = few
default_low end false few = omega (arith, few)

head_well : (n : ℕ) (u : UnitTy) (f : Framed) (e : Typed) (a : Stmt) (d : Drafted) → Knows f u n → IsTyped u e → d.labels + 1 + 1 + length (cases_of a) ≤ 2 ^ 32 → (with_choice f e a d).labels ≤ 2 ^ 32 → d.labels + 1 + 1 < 2 ^ 32 → AllWell n d.lines → AllWell n (with_choice f e a d).lines
head_well n u f e a d knows typed room few low h =
    let g : Drafted = with_value f e (with_labels (length (cases_of a)) (two_given d)) in
    let c : Drafted = with_cases (width_of (kind_in e)) (default_way a d.labels) (d.labels + 1 + 1) (cases_of a) g in
    let way : default_way a d.labels < 2 ^ 32 = default_low d.labels (has_default a) (omega (arith, low)) in
    let first : AllWell n g.lines = value_well n u f e (with_labels (length (cases_of a)) (two_given d)) knows typed (omega (arith, few)) h in
    let chosen : AllWell n c.lines = well_append n g.lines _ first (choice_well n (width_of (kind_in e)) (default_way a d.labels) (d.labels + 1 + 1) g.labels (cases_of a) way low few) in
    jump_well n (default_way a d.labels) c way chosen

-- ---- statements

mutual
  stmt_well : (n : ℕ) (u : UnitTy) (c : Context) (f : Framed) (w : Ways) (l : ℕ) (s : Stmt) (d : Drafted) → Knows f u n → IsStmt u c s → WellWays w → l < 2 ^ 32 → (with_stmt f w l s d).labels < 2 ^ 32 → AllWell n d.lines → AllWell n (with_stmt f w l s d).lines
  stmt_well n u c f w l empty d knows typed go low few h = h
  stmt_well n u c f w l (eval e) d knows typed go low few h = effect_put_well n u f e d knows typed (omega (arith, few)) h
  stmt_well n u c f w l (set_part i o e) d knows typed go low few h = set_well n u f i o e d knows (knows.objects i (slice_get_within u.objects i typed.object typed.automatic.0)) typed.typed (omega (arith, few)) h
  stmt_well n u c f w l (clear i) d knows typed go low few h = zeros_well n (spot_of f i 0) (object_bytes f i) d (spot_well n f i 0 (knows.objects i (slice_get_within u.objects i typed.0 typed.1.0))) (omega (arith, few)) h
  stmt_well n u c f w l (block os ss) d knows typed go low few h = stmts_well n u c f w l ss d knows typed.1 go low few h
  stmt_well n u c f w l (if_stmt e a b) d knows typed go low few h =
      let m1 : Drafted = with_test f d.labels false e (two_given d) in
      let m2 : Drafted = with_stmt f w l a m1 in
      let m3 : Drafted = with_way (is_empty b) (d.labels + 1) m2 in
      let m4 : Drafted = with_label d.labels m3 in
      let m5 : Drafted = with_stmt f w (case_behind l a) b m4 in
      let same : m3.labels ≡ m2.labels = way_labels (is_empty b) (d.labels + 1) m2 in
      let second : m2.labels ≤ m5.labels = omega (arith, same, stmt_grows f w (case_behind l a) b m4) in
      let first : m1.labels ≤ m2.labels = stmt_grows f w l a m1 in
      let h1 : AllWell n m1.lines = test_well n u f d.labels false e (two_given d) knows typed.0.0 (omega (arith, few, first, second)) (omega (arith, few, first, second)) h in
      let h2 : AllWell n m2.lines = stmt_well n u c f w l a m1 knows typed.1 go low (omega (arith, few, second)) h1 in
      let h4 : AllWell n m4.lines = label_well n d.labels m3 (omega (arith, few, first, second)) (way_well n (is_empty b) (d.labels + 1) m2 (omega (arith, few, first, second)) h2) in
      let h5 : AllWell n m5.lines = stmt_well n u c f w (case_behind l a) b m4 knows typed.2 go (behind_low l a low) few h4 in
      label_well n (d.labels + 1) m5 (omega (arith, few, first, second)) h5
  stmt_well n u c f w l (while e a) d knows typed go low few h =
      let m1 : Drafted = with_label d.labels (two_given d) in
      let m2 : Drafted = with_test f (d.labels + 1) false e m1 in
      let inner : Ways = ways (d.labels + 1) d.labels w.other in
      let m3 : Drafted = with_stmt f inner l a m2 in
      let grown : m2.labels ≤ m3.labels = stmt_grows f inner l a m2 in
      let end : d.labels + 1 < 2 ^ 32 = omega (arith, few, grown) in
      let head : d.labels < 2 ^ 32 = omega (arith, end) in
      let h2 : AllWell n m2.lines = test_well n u f (d.labels + 1) false e m1 knows typed.0.0 end (omega (arith, few, grown)) (label_well n d.labels (two_given d) head h) in
      let h3 : AllWell n m3.lines = stmt_well n u (looping c) f inner l a m2 knows typed.1 (record { behind = end; onward = head; other = go.other }) low few h2 in
      label_well n (d.labels + 1) (with_jump d.labels m3) end (jump_well n d.labels m3 head h3)
  stmt_well n u c f w l (do_while a e) d knows typed go low few h =
      let m1 : Drafted = with_label d.labels (three_given d) in
      let inner : Ways = ways (d.labels + 1 + 1) (d.labels + 1) w.other in
      let m2 : Drafted = with_stmt f inner l a m1 in
      let m3 : Drafted = with_label (d.labels + 1) m2 in
      let m4 : Drafted = with_test f d.labels true e m3 in
      let grown : m1.labels ≤ m2.labels = stmt_grows f inner l a m1 in
      let end : d.labels + 1 + 1 < 2 ^ 32 = omega (arith, few, grown) in
      let onward : d.labels + 1 < 2 ^ 32 = omega (arith, end) in
      let head : d.labels < 2 ^ 32 = omega (arith, end) in
      let h2 : AllWell n m2.lines = stmt_well n u (looping c) f inner l a m1 knows typed.0 (record { behind = end; onward = onward; other = go.other }) low (omega (arith, few)) (label_well n d.labels (three_given d) head h) in
      let h4 : AllWell n m4.lines = test_well n u f d.labels true e m3 knows typed.1.0 head (omega (arith, few)) (label_well n (d.labels + 1) m2 onward h2) in
      label_well n (d.labels + 1 + 1) m4 end h4
  stmt_well n u c f w l (for_loop i t s a) d knows typed go low few h =
      let g : Drafted = with_effects f i d in
      let m1 : Drafted = with_label g.labels (three_given g) in
      let m2 : Drafted = with_guard f (g.labels + 1 + 1) t m1 in
      let inner : Ways = ways (g.labels + 1 + 1) (g.labels + 1) w.other in
      let m3 : Drafted = with_stmt f inner l a m2 in
      let m4 : Drafted = with_label (g.labels + 1) m3 in
      let m5 : Drafted = with_effects f s m4 in
      let first : m1.labels ≤ m2.labels = guard_grows f (g.labels + 1 + 1) t m1 in
      let second : m2.labels ≤ m3.labels = stmt_grows f inner l a m2 in
      let third : m4.labels ≤ m5.labels = effects_grow f s m4 in
      let end : g.labels + 1 + 1 < 2 ^ 32 = omega (arith, few, first, second, third) in
      let onward : g.labels + 1 < 2 ^ 32 = omega (arith, end) in
      let head : g.labels < 2 ^ 32 = omega (arith, end) in
      let h0 : AllWell n g.lines = effects_well n u f i d knows typed.0 (omega (arith, head)) h in
      let h2 : AllWell n m2.lines = guard_well n u f (g.labels + 1 + 1) t m1 knows typed.1 end (omega (arith, few, second, third)) (label_well n g.labels (three_given g) head h0) in
      let h3 : AllWell n m3.lines = stmt_well n u (looping c) f inner l a m2 knows typed.3 (record { behind = end; onward = onward; other = go.other }) low (omega (arith, few, third)) h2 in
      let h5 : AllWell n m5.lines = effects_well n u f s m4 knows typed.2 (omega (arith, few)) (label_well n (g.labels + 1) m3 onward h3) in
      label_well n (g.labels + 1 + 1) (with_jump g.labels m5) end (jump_well n g.labels m5 head h5)
  stmt_well n u c f w l (switch e a) d knows typed go low few h =
      let m1 : Drafted = with_choice f e a d in
      let inner : Ways = ways d.labels w.onward (d.labels + 1) in
      let m2 : Drafted = with_stmt f inner (d.labels + 1 + 1) a m1 in
      let grown : m1.labels ≤ m2.labels = stmt_grows f inner (d.labels + 1 + 1) a m1 in
      let case_low : d.labels + 1 + 1 < 2 ^ 32 = omega (arith, few, grown) in
      let end : d.labels < 2 ^ 32 = omega (arith, case_low) in
      let h1 : AllWell n m1.lines = head_well n u f e a d knows typed.1.typed (omega (arith, few, grown)) (omega (arith, few, grown)) case_low h in
      label_well n d.labels m2 end (stmt_well n u (switching typed.0 c) f inner (d.labels + 1 + 1) a m1 knows typed.2 (record { behind = end; onward = go.onward; other = omega (arith, case_low) }) case_low few h1)
  stmt_well n u c f w l (case z a) d knows typed go low few h = stmt_well n u c f w (following l) a (with_label l d) knows typed.1 go (omega arith) few (label_well n l d low h)
  stmt_well n u c f w l (default a) d knows typed go low few h = stmt_well n u c f w l a (with_label w.other d) knows typed.1 go low few (label_well n w.other d go.other h)
  stmt_well n u c f w l (label i a) d knows typed go low few h = stmt_well n u c f w l a (with_label (following i) d) knows typed go low few (label_well n (following i) d (omega arith) h)
  stmt_well n u c f w l (goto i) d knows typed go low few h = jump_well n (following i) d (omega arith) h
  stmt_well n u c f w l break d knows typed go low few h = jump_well n w.behind d go.behind h
  stmt_well n u c f w l continue d knows typed go low few h = jump_well n w.onward d go.onward h
  stmt_well n u c f w l (return e) d knows typed go low few h = jump_well n 0 (with_maybe f e d) (omega arith) (given_well n u c f e d knows typed (omega (arith, few)) h)

  stmts_well : (n : ℕ) (u : UnitTy) (c : Context) (f : Framed) (w : Ways) (l : ℕ) (ss : Stmts) (d : Drafted) → Knows f u n → AreStmts u c ss → WellWays w → l < 2 ^ 32 → (with_stmts f w l ss d).labels < 2 ^ 32 → AllWell n d.lines → AllWell n (with_stmts f w l ss d).lines
  stmts_well n u c f w l no_stmts d knows typed go low few h = h
  stmts_well n u c f w l (and_stmts a ss) d knows typed go low few h =
      let m1 : Drafted = with_stmt f w l a d in
      let grown : m1.labels ≤ (with_stmts f w (case_behind l a) ss m1).labels = stmts_grow f w (case_behind l a) ss m1 in
      stmts_well n u c f w (case_behind l a) ss m1 knows typed.1 go (behind_low l a low) few (stmt_well n u c f w l a d knows typed.0 go low (omega (arith, few, grown)) h)

-- ---- what stands last

mutual
  pub last_well : (n : ℕ) (u : UnitTy) (c : Context) (f : Framed) (w : Ways) (l : ℕ) (s : Stmt) (d : Drafted) → Knows f u n → IsStmt u c s → WellWays w → l < 2 ^ 32 → (with_last f w l s d).labels < 2 ^ 32 → AllWell n d.lines → AllWell n (with_last f w l s d).lines
  last_well n u c f w l (block os ss) d knows typed go low few h = lasts_well n u c f w l ss d knows typed.1 go low few h
  last_well n u c f w l (return e) d knows typed go low few h = given_well n u c f e d knows typed (omega (arith, few)) h
  last_well n u c f w l a d knows typed go low few h = stmt_well n u c f w l a d knows typed go low few h

  lasts_well : (n : ℕ) (u : UnitTy) (c : Context) (f : Framed) (w : Ways) (l : ℕ) (ss : Stmts) (d : Drafted) → Knows f u n → AreStmts u c ss → WellWays w → l < 2 ^ 32 → (with_lasts f w l ss d).labels < 2 ^ 32 → AllWell n d.lines → AllWell n (with_lasts f w l ss d).lines
  lasts_well n u c f w l no_stmts d knows typed go low few h = h
  lasts_well n u c f w l (and_stmts a no_stmts) d knows typed go low few h = last_well n u c f w l a d knows typed.0 go low few h
  lasts_well n u c f w l (and_stmts a (and_stmts b ss)) d knows typed go low few h =
      let m1 : Drafted = with_stmt f w l a d in
      let grown : m1.labels ≤ (with_lasts f w (case_behind l a) (and_stmts b ss) m1).labels = lasts_grow f w (case_behind l a) (and_stmts b ss) m1 in
      lasts_well n u c f w (case_behind l a) (and_stmts b ss) m1 knows typed.1 go (behind_low l a low) few (stmt_well n u c f w l a d knows typed.0 go low (omega (arith, few, grown)) h)
