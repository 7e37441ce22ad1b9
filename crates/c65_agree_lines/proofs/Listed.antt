-- What a draft gains by a statement.
use Rattle.std.proofs.Common.{◌≡◌, ℕ, ◌+◌, ◌%◌, List, [], ◌∷◌, ◌++◌, Bool, true, false, Some, None, refl, sym, ap, ◌∙◌, subst, arith}
use Rattle.std.specs.Prelude.{◌&&◌, not, length}
use Rattle.c65_csem.specs.Trees.{Typed, MaybeTyped, absent, present, Stmt, empty, eval, set_part, clear, block, if_stmt, while, do_while, for_loop, switch, case, default, label, goto, break, continue, return, Stmts, no_stmts, and_stmts}
use Rattle.c65_csem.specs.Places.{is_tag}
use Rattle.c65_csem.specs.Statements.{cases_of}
use Rattle.c65_mach.specs.declared.rows.Op.TheVariants.{Jmp, Sta, Stx}
use Rattle.c65_code.specs.declared.line.Line.{Line}
use Rattle.c65_code.specs.declared.line.Line.TheVariants.{Label}
use Rattle.c65_code.specs.declared.parts.RegSet.{RegSet}
use Rattle.c65_code.specs.Segments.{Drafted}
use Rattle.c65_genframe.specs.Frames.{Framed, type_bytes}
use Rattle.c65_genwide.specs.Wide.{width_of}
use Rattle.c65_genwide.specs.Lines.{with_lines, grown}
use Rattle.c65_genload.specs.declared.places.Access.TheVariants.{Whole}
use Rattle.c65_genload.specs.Conversions.{size_of}
use Rattle.c65_genexpr.specs.declared.wanted.Wanted.TheVariants.{Value, Test}
use Rattle.c65_genexpr.specs.Code.{expr_code}
use Rattle.c65_genexpr.specs.Types.{bare, kind_in}
use Rattle.c65_genexpr.specs.Uses.{uses}
use Rattle.c65_geneffect.specs.Effects.{effect_code, effect_uses}
use Rattle.c65_genentry.specs.Drafts.{with_labels}
use Rattle.c65_genentry.specs.Words.{ptr1, ptr2, zero_page, jump}
use Rattle.c65_genentry.specs.Entry.{entry_code}
use Rattle.c65_genentry.specs.Ends.{end_code}
use Rattle.c65_genentry.specs.Pointers.{near_code, symbol_code}
use Rattle.c65_genentry.specs.Pointers as pointers
use Rattle.c65_genentry.specs.Bytes.{block_labels}
use Rattle.c65_genentry.specs.Bytes as blocks
use Rattle.c65_genentry.specs.Choice.{choice_code, choice_labels}
use Rattle.c65_genstmt.specs.declared.jumps.Ways.{Ways}
use Rattle.c65_genstmt.specs.declared.objects.Spot.{Spot}
use Rattle.c65_genstmt.specs.declared.objects.Spot.TheVariants.{Bank, Soft, Data}
use Rattle.c65_genstmt.specs.Jumps.{following, with_value, with_test}
use Rattle.c65_genstmt.specs.Objects.{spot_of, object_bytes, point_code, stored_code, with_kept, with_zeros}
use Rattle.c65_genstmt.specs.Stmts.{is_empty, case_behind, ways, default_way, returns_last, with_label, with_jump, with_way, two_given, three_given, with_maybe, with_effects, with_guard, with_cases, with_choice, with_stmt, with_stmts, with_last, with_lasts}
use Rattle.c65_genstmt.specs.Functions.{body_room, main_code, no_lines, with_function}
use Rattle.c65_agree_lines.specs.Lists.{kept_code, kept_uses, zeros_code, zeros_uses, maybe_code, maybe_uses, effects_code, effects_uses, guard_code, guard_uses, head_code, head_uses, way_code, stmt_code, stmt_uses, stmts_code, stmts_uses, last_code, lasts_code}
use Rattle.c65_agree_lines.specs.Laws.{Gains, StatementsAreListed, FunctionsAreListed, FunctionsGiveTheirResults}

append_again : (xs ys zs : List Line) → (xs ++ ys) ++ zs ≡ xs ++ (ys ++ zs)
append_again [] ys zs = refl
append_again (x ∷ xs) ys zs = ap (λ l. x ∷ l) (append_again xs ys zs)

append_nothing : (xs : List Line) → xs ++ [] ≡ xs
append_nothing [] = refl
append_nothing (x ∷ xs) = ap (λ l. x ∷ l) (append_nothing xs)

-- ---- gains

nothing : (d : Drafted) → Gains d d [] 0
nothing d = record { lines_are = sym (append_nothing d.lines); labels_are = omega arith; out_is = refl }

-- one gain behind another
behind_it : (d e f : Drafted) (first second : List Line) (m n : ℕ) → Gains d e first m → Gains e f second n → Gains d f (first ++ second) (m + n)
behind_it d e f first second m n g h = record { lines_are = h.lines_are ∙ ap (λ l. l ++ second) g.lines_are ∙ append_again d.lines first second; labels_are = omega (arith, g.labels_are, h.labels_are); out_is = h.out_is ∙ g.out_is }

-- the same by other numbers of labels
counted : (d e : Drafted) (code : List Line) (m n : ℕ) → Gains d e code m → m ≡ n → Gains d e code n
counted d e code m n g h = record { lines_are = g.lines_are; labels_are = omega (arith, g.labels_are, h); out_is = g.out_is }

-- some labels are given before
given : (d1 d e : Drafted) (code : List Line) (k n m : ℕ) → d1.lines ≡ d.lines → d1.out ≡ d.out → d1.labels ≡ d.labels + k → k + n ≡ m → Gains d1 e code n → Gains d e code m
given d1 d e code k n m same out more sum g = record { lines_are = g.lines_are ∙ ap (λ l. l ++ code) same; labels_are = omega (arith, g.labels_are, more, sum); out_is = g.out_is ∙ out }

-- lines alone
plain : (d : Drafted) (lines : List Line) → Gains d (with_lines d lines) lines 0
plain d lines = record { lines_are = refl; labels_are = omega arith; out_is = refl }

more_lines : (d : Drafted) (lines : List Line) (n : ℕ) → Gains d (grown d lines n) lines n
more_lines d lines n = record { lines_are = refl; labels_are = refl; out_is = refl }

-- ---- parts

kept : (b : Bool) (f : Framed) (spot : Spot) (e : Typed) (d : Drafted) → Gains d (with_kept b f spot e d) (kept_code b f spot e d.labels) (kept_uses b f e)
kept false f spot e d = plain d (stored_code spot (Whole (kind_in e)) (size_of (kind_in e)))
kept true f spot e d =
    let pointed = zero_page Sta ptr1 ∷ zero_page Stx (ptr1 + 1) ∷ [] in
    let n = type_bytes f (bare e) % 65536 in
    let d1 = with_lines d pointed in
    let d2 = with_lines d1 (point_code ptr2 spot) in
    let all = behind_it d d1 (with_kept true f spot e d) pointed (point_code ptr2 spot ++ blocks.copy_code n d.labels) 0 (0 + block_labels n) (plain d pointed) (behind_it d1 d2 (with_kept true f spot e d) (point_code ptr2 spot) (blocks.copy_code n d.labels) 0 (block_labels n) (plain d1 (point_code ptr2 spot)) (record { lines_are = refl; labels_are = refl; out_is = refl })) in
    counted d (with_kept true f spot e d) (kept_code true f spot e d.labels) (0 + (0 + block_labels n)) (block_labels n) all (omega arith)

zeros : (spot : Spot) (bytes : ℕ) (d : Drafted) → Gains d (with_zeros spot bytes d) (zeros_code spot bytes d.labels) (zeros_uses spot bytes)
zeros (Bank bank) bytes d = plain d (pointers.clear_code bank bytes)
zeros (Soft at) bytes d =
    let d1 = with_lines d (near_code ptr1 at) in
    counted d (with_zeros (Soft at) bytes d) (zeros_code (Soft at) bytes d.labels) (0 + block_labels (bytes % 65536)) (block_labels (bytes % 65536)) (behind_it d d1 (with_zeros (Soft at) bytes d) (near_code ptr1 at) (blocks.clear_code (bytes % 65536) d.labels) 0 (block_labels (bytes % 65536)) (plain d (near_code ptr1 at)) (record { lines_are = refl; labels_are = refl; out_is = refl })) (omega arith)
zeros (Data sym at) bytes d =
    let d1 = with_lines d (symbol_code ptr1 sym at) in
    counted d (with_zeros (Data sym at) bytes d) (zeros_code (Data sym at) bytes d.labels) (0 + block_labels (bytes % 65536)) (block_labels (bytes % 65536)) (behind_it d d1 (with_zeros (Data sym at) bytes d) (symbol_code ptr1 sym at) (blocks.clear_code (bytes % 65536) d.labels) 0 (block_labels (bytes % 65536)) (plain d (symbol_code ptr1 sym at)) (record { lines_are = refl; labels_are = refl; out_is = refl })) (omega arith)

maybe : (f : Framed) (e : MaybeTyped) (d : Drafted) → Gains d (with_maybe f e d) (maybe_code f e d.labels) (maybe_uses e)
maybe f absent d = nothing d
maybe f (present e) d = more_lines d (expr_code f 0 d.labels Value e) (uses None e)

effects : (f : Framed) (e : MaybeTyped) (d : Drafted) → Gains d (with_effects f e d) (effects_code f e d.labels) (effects_uses e)
effects f absent d = nothing d
effects f (present e) d = more_lines d (effect_code f 0 d.labels e) (effect_uses e)

guard : (f : Framed) (end : ℕ) (e : MaybeTyped) (d : Drafted) → Gains d (with_guard f end e d) (guard_code f end e d.labels) (guard_uses e)
guard f end absent d = nothing d
guard f end (present e) d = more_lines d (expr_code f 0 d.labels (Test end false) e) (uses (Some false) e)

head : (f : Framed) (e : Typed) (a : Stmt) (d : Drafted) → Gains d (with_choice f e a d) (head_code f e a d.labels) (head_uses e a)
head f e a d =
    let k = length (cases_of a) in
    let d1 = with_labels k (two_given d) in
    let g = with_value f e d1 in
    let way = default_way a d.labels in
    let choice = choice_code (width_of (kind_in e)) way (d.labels + 1 + 1) g.labels (cases_of a) in
    let given_labels = choice_labels (width_of (kind_in e)) (cases_of a) in
    let h = with_cases (width_of (kind_in e)) way (d.labels + 1 + 1) (cases_of a) g in
    let last = behind_it g h (with_jump way h) choice (jump Jmp way ∷ []) given_labels 0 (record { lines_are = refl; labels_are = refl; out_is = refl }) (plain h (jump Jmp way ∷ [])) in
    let all = behind_it d1 g (with_jump way h) (expr_code f 0 d1.labels Value e) (choice ++ jump Jmp way ∷ []) (uses None e) (given_labels + 0) (more_lines d1 (expr_code f 0 d1.labels Value e) (uses None e)) last in
    given d1 d (with_jump way h) (head_code f e a d.labels) (2 + k) (uses None e + (given_labels + 0)) (head_uses e a) refl refl (omega arith) (omega arith) all

-- the jump over what stands between
way : (at : Bool) (l : ℕ) (d : Drafted) → Gains d (with_way at l d) (way_code at l) 0
way true l d = nothing d
way false l d = plain d (jump Jmp l ∷ [])

-- a label before a statement
labelled_gains : (f : Framed) (w : Ways) (next here : ℕ) (a : Stmt) (d : Drafted) → Gains (with_label here d) (with_stmt f w next a (with_label here d)) (stmt_code f w next a d.labels) (stmt_uses f a) → Gains d (with_stmt f w next a (with_label here d)) (Label here ∷ stmt_code f w next a d.labels) (stmt_uses f a)
labelled_gains f w next here a d g =
    counted d (with_stmt f w next a (with_label here d)) (Label here ∷ stmt_code f w next a d.labels) (0 + stmt_uses f a) (stmt_uses f a) (behind_it d (with_label here d) (with_stmt f w next a (with_label here d)) (Label here ∷ []) (stmt_code f w next a d.labels) 0 (stmt_uses f a) (plain d (Label here ∷ [])) g) (omega arith)

-- a loop of `for` from its head on
module _ (f : Framed) (w : Ways) (l : ℕ) (c n : MaybeTyped) (a : Stmt) where
  abbrev with_loop : Drafted → Drafted
  with_loop g =
      let body = with_stmt f (ways (g.labels + 1 + 1) (g.labels + 1) w.other) l a (with_guard f (g.labels + 1 + 1) c (with_label g.labels (three_given g))) in
      with_label (g.labels + 1 + 1) (with_jump g.labels (with_effects f n (with_label (g.labels + 1) body)))

  abbrev loop_code : ℕ → List Line
  loop_code h =
      let body = h + 1 + 1 + 1 + guard_uses c in
      Label h ∷ (guard_code f (h + 1 + 1) c (h + 1 + 1 + 1) ++ (stmt_code f (ways (h + 1 + 1) (h + 1) w.other) l a body ++ Label (h + 1) ∷ (effects_code f n (body + stmt_uses f a) ++ jump Jmp h ∷ Label (h + 1 + 1) ∷ [])))

  abbrev loop_uses : ℕ
  loop_uses = 3 + (guard_uses c + (stmt_uses f a + effects_uses n))

  loop_gains : (g : Drafted) → ((w : Ways) (d : Drafted) → Gains d (with_stmt f w l a d) (stmt_code f w l a d.labels) (stmt_uses f a)) → Gains g (with_loop g) (loop_code g.labels) loop_uses
  loop_gains g deep =
      let d1 = three_given g in
      let t0 = with_label g.labels d1 in
      let t1 = with_guard f (g.labels + 1 + 1) c t0 in
      let inner = ways (g.labels + 1 + 1) (g.labels + 1) w.other in
      let t2 = with_stmt f inner l a t1 in
      let t3 = with_label (g.labels + 1) t2 in
      let t4 = with_effects f n t3 in
      let t5 = with_label (g.labels + 1 + 1) (with_jump g.labels t4) in
      let tested = guard f (g.labels + 1 + 1) c t0 in
      let start = d1.labels + guard_uses c in
      let test = guard_code f (g.labels + 1 + 1) c d1.labels in
      let code = stmt_code f inner l a start in
      let next = effects_code f n (start + stmt_uses f a) in
      let last = jump Jmp g.labels ∷ Label (g.labels + 1 + 1) ∷ [] in
      let one : Gains t1 t2 code (stmt_uses f a) = subst (λ y. Gains t1 t2 (stmt_code f inner l a y) (stmt_uses f a)) tested.labels_are (deep inner t1) in
      let count : t2.labels ≡ start + stmt_uses f a = one.labels_are ∙ ap (λ y. y + stmt_uses f a) tested.labels_are in
      let step : Gains t3 t4 next (effects_uses n) = subst (λ y. Gains t3 t4 (effects_code f n y) (effects_uses n)) count (effects f n t3) in
      let turn : Gains t4 t5 last 0 = record { lines_are = append_again t4.lines (jump Jmp g.labels ∷ []) (Label (g.labels + 1 + 1) ∷ []); labels_are = omega arith; out_is = refl } in
      let stepped = behind_it t3 t4 t5 next last (effects_uses n) 0 step turn in
      let onward = behind_it t2 t3 t5 (Label (g.labels + 1) ∷ []) (next ++ last) 0 (effects_uses n + 0) (plain t2 (Label (g.labels + 1) ∷ [])) stepped in
      let body = behind_it t1 t2 t5 code (Label (g.labels + 1) ∷ (next ++ last)) (stmt_uses f a) (0 + (effects_uses n + 0)) one onward in
      let guarded = behind_it t0 t1 t5 test (code ++ Label (g.labels + 1) ∷ (next ++ last)) (guard_uses c) (stmt_uses f a + (0 + (effects_uses n + 0))) tested body in
      let all = behind_it d1 t0 t5 (Label g.labels ∷ []) (test ++ (code ++ Label (g.labels + 1) ∷ (next ++ last))) 0 (guard_uses c + (stmt_uses f a + (0 + (effects_uses n + 0)))) (plain d1 (Label g.labels ∷ [])) guarded in
      given d1 g t5 (loop_code g.labels) 3 (0 + (guard_uses c + (stmt_uses f a + (0 + (effects_uses n + 0))))) loop_uses refl refl (omega arith) (omega arith) all

-- ---- statements

mutual
  stmt_gains : (f : Framed) (w : Ways) (l : ℕ) (s : Stmt) (d : Drafted) → Gains d (with_stmt f w l s d) (stmt_code f w l s d.labels) (stmt_uses f s)
  stmt_gains f w l empty d = nothing d
  stmt_gains f w l (eval e) d = more_lines d (effect_code f 0 d.labels e) (effect_uses e)
  stmt_gains f w l (set_part i o e) d =
      let d1 = with_value f e d in
      behind_it d d1 (with_kept (is_tag (bare e)) f (spot_of f i o) e d1) (expr_code f 0 d.labels Value e) (kept_code (is_tag (bare e)) f (spot_of f i o) e d1.labels) (uses None e) (kept_uses (is_tag (bare e)) f e) (more_lines d (expr_code f 0 d.labels Value e) (uses None e)) (kept (is_tag (bare e)) f (spot_of f i o) e d1)
  stmt_gains f w l (clear i) d = zeros (spot_of f i 0) (object_bytes f i) d
  stmt_gains f w l (block os ss) d = stmts_gain f w l ss d
  stmt_gains f w l (if_stmt e a b) d =
      let d1 = two_given d in
      let t1 = with_test f d.labels false e d1 in
      let t2 = with_stmt f w l a t1 in
      let at = is_empty b in
      let over = way_code at (d.labels + 1) in
      let t2w = with_way at (d.labels + 1) t2 in
      let t3 = with_label d.labels t2w in
      let t4 = with_stmt f w (case_behind l a) b t3 in
      let t5 = with_label (d.labels + 1) t4 in
      let test = expr_code f 0 d1.labels (Test d.labels false) e in
      let first = stmt_code f w l a t1.labels in
      let second = stmt_code f w (case_behind l a) b (t1.labels + stmt_uses f a) in
      let last = Label (d.labels + 1) ∷ [] in
      let one = stmt_gains f w l a t1 in
      let turn = way at (d.labels + 1) t2 in
      let count : t3.labels ≡ t1.labels + stmt_uses f a = omega (arith, one.labels_are, turn.labels_are) in
      let two : Gains t3 t4 second (stmt_uses f b) = subst (λ y. Gains t3 t4 (stmt_code f w (case_behind l a) b y) (stmt_uses f b)) count (stmt_gains f w (case_behind l a) b t3) in
      let behind = behind_it t3 t4 t5 second last (stmt_uses f b) 0 two (plain t4 last) in
      let here = behind_it t2w t3 t5 (Label d.labels ∷ []) (second ++ last) 0 (stmt_uses f b + 0) (plain t2w (Label d.labels ∷ [])) behind in
      let rest = behind_it t2 t2w t5 over (Label d.labels ∷ (second ++ last)) 0 (0 + (stmt_uses f b + 0)) turn here in
      let body = behind_it t1 t2 t5 first (over ++ Label d.labels ∷ (second ++ last)) (stmt_uses f a) (0 + (0 + (stmt_uses f b + 0))) one rest in
      let all = behind_it d1 t1 t5 test (first ++ (over ++ Label d.labels ∷ (second ++ last))) (uses (Some false) e) (stmt_uses f a + (0 + (0 + (stmt_uses f b + 0)))) (more_lines d1 test (uses (Some false) e)) body in
      given d1 d t5 (stmt_code f w l (if_stmt e a b) d.labels) 2 (uses (Some false) e + (stmt_uses f a + (0 + (0 + (stmt_uses f b + 0))))) (stmt_uses f (if_stmt e a b)) refl refl (omega arith) (omega arith) all
  stmt_gains f w l (while e a) d =
      let d1 = two_given d in
      let t0 = with_label d.labels d1 in
      let t1 = with_test f (d.labels + 1) false e t0 in
      let inner = ways (d.labels + 1) d.labels w.other in
      let t2 = with_stmt f inner l a t1 in
      let t3 = with_label (d.labels + 1) (with_jump d.labels t2) in
      let test = expr_code f 0 d1.labels (Test (d.labels + 1) false) e in
      let code = stmt_code f inner l a t1.labels in
      let last = jump Jmp d.labels ∷ Label (d.labels + 1) ∷ [] in
      let turn : Gains t2 t3 last 0 = record { lines_are = append_again t2.lines (jump Jmp d.labels ∷ []) (Label (d.labels + 1) ∷ []); labels_are = omega arith; out_is = refl } in
      let body = behind_it t1 t2 t3 code last (stmt_uses f a) 0 (stmt_gains f inner l a t1) turn in
      let tested = behind_it t0 t1 t3 test (code ++ last) (uses (Some false) e) (stmt_uses f a + 0) (more_lines t0 test (uses (Some false) e)) body in
      let all = behind_it d1 t0 t3 (Label d.labels ∷ []) (test ++ (code ++ last)) 0 (uses (Some false) e + (stmt_uses f a + 0)) (plain d1 (Label d.labels ∷ [])) tested in
      given d1 d t3 (stmt_code f w l (while e a) d.labels) 2 (0 + (uses (Some false) e + (stmt_uses f a + 0))) (stmt_uses f (while e a)) refl refl (omega arith) (omega arith) all
  stmt_gains f w l (do_while a e) d =
      let d1 = three_given d in
      let t0 = with_label d.labels d1 in
      let inner = ways (d.labels + 1 + 1) (d.labels + 1) w.other in
      let t1 = with_stmt f inner l a t0 in
      let t2 = with_label (d.labels + 1) t1 in
      let t3 = with_test f d.labels true e t2 in
      let t4 = with_label (d.labels + 1 + 1) t3 in
      let code = stmt_code f inner l a d1.labels in
      let test = expr_code f 0 (d1.labels + stmt_uses f a) (Test d.labels true) e in
      let last = Label (d.labels + 1 + 1) ∷ [] in
      let one = stmt_gains f inner l a t0 in
      let tested : Gains t2 t3 test (uses (Some true) e) = subst (λ y. Gains t2 t3 (expr_code f 0 y (Test d.labels true) e) (uses (Some true) e)) one.labels_are (more_lines t2 (expr_code f 0 t1.labels (Test d.labels true) e) (uses (Some true) e)) in
      let bottom = behind_it t2 t3 t4 test last (uses (Some true) e) 0 tested (plain t3 last) in
      let onward = behind_it t1 t2 t4 (Label (d.labels + 1) ∷ []) (test ++ last) 0 (uses (Some true) e + 0) (plain t1 (Label (d.labels + 1) ∷ [])) bottom in
      let body = behind_it t0 t1 t4 code (Label (d.labels + 1) ∷ (test ++ last)) (stmt_uses f a) (0 + (uses (Some true) e + 0)) one onward in
      let all = behind_it d1 t0 t4 (Label d.labels ∷ []) (code ++ Label (d.labels + 1) ∷ (test ++ last)) 0 (stmt_uses f a + (0 + (uses (Some true) e + 0))) (plain d1 (Label d.labels ∷ [])) body in
      given d1 d t4 (stmt_code f w l (do_while a e) d.labels) 3 (0 + (stmt_uses f a + (0 + (uses (Some true) e + 0)))) (stmt_uses f (do_while a e)) refl refl (omega arith) (omega arith) all
  stmt_gains f w l (for_loop i c n a) d =
      let g = with_effects f i d in
      let first = effects f i d in
      let loop = loop_gains f w l c n a g (λ inner e. stmt_gains f inner l a e) in
      let there = subst (λ y. Gains g (with_loop f w l c n a g) (loop_code f w l c n a y) (loop_uses f w l c n a)) first.labels_are loop in
      behind_it d g (with_loop f w l c n a g) (effects_code f i d.labels) (loop_code f w l c n a (d.labels + effects_uses i)) (effects_uses i) (loop_uses f w l c n a) first there
  stmt_gains f w l (switch e a) d =
      let t1 = with_choice f e a d in
      let first = head f e a d in
      let inner = ways d.labels w.onward (d.labels + 1) in
      let t2 = with_stmt f inner (d.labels + 1 + 1) a t1 in
      let t3 = with_label d.labels t2 in
      let code = stmt_code f inner (d.labels + 1 + 1) a (d.labels + head_uses e a) in
      let last = Label d.labels ∷ [] in
      let one : Gains t1 t2 code (stmt_uses f a) = subst (λ y. Gains t1 t2 (stmt_code f inner (d.labels + 1 + 1) a y) (stmt_uses f a)) first.labels_are (stmt_gains f inner (d.labels + 1 + 1) a t1) in
      let body = behind_it t1 t2 t3 code last (stmt_uses f a) 0 one (plain t2 last) in
      let all = behind_it d t1 t3 (head_code f e a d.labels) (code ++ last) (head_uses e a) (stmt_uses f a + 0) first body in
      counted d t3 (stmt_code f w l (switch e a) d.labels) (head_uses e a + (stmt_uses f a + 0)) (stmt_uses f (switch e a)) all (omega arith)
  stmt_gains f w l (case z a) d = labelled_gains f w (following l) l a d (stmt_gains f w (following l) a (with_label l d))
  stmt_gains f w l (default a) d = labelled_gains f w l w.other a d (stmt_gains f w l a (with_label w.other d))
  stmt_gains f w l (label n a) d = labelled_gains f w l (following n) a d (stmt_gains f w l a (with_label (following n) d))
  stmt_gains f w l (goto n) d = plain d (jump Jmp (following n) ∷ [])
  stmt_gains f w l break d = plain d (jump Jmp w.behind ∷ [])
  stmt_gains f w l continue d = plain d (jump Jmp w.onward ∷ [])
  stmt_gains f w l (return e) d =
      let t = with_maybe f e d in
      counted d (with_jump 0 t) (stmt_code f w l (return e) d.labels) (maybe_uses e + 0) (maybe_uses e) (behind_it d t (with_jump 0 t) (maybe_code f e d.labels) (jump Jmp 0 ∷ []) (maybe_uses e) 0 (maybe f e d) (plain t (jump Jmp 0 ∷ []))) (omega arith)

  stmts_gain : (f : Framed) (w : Ways) (l : ℕ) (ss : Stmts) (d : Drafted) → Gains d (with_stmts f w l ss d) (stmts_code f w l ss d.labels) (stmts_uses f ss)
  stmts_gain f w l no_stmts d = nothing d
  stmts_gain f w l (and_stmts a ss) d =
      let t = with_stmt f w l a d in
      let one = stmt_gains f w l a d in
      let rest : Gains t (with_stmts f w (case_behind l a) ss t) (stmts_code f w (case_behind l a) ss (d.labels + stmt_uses f a)) (stmts_uses f ss) = subst (λ y. Gains t (with_stmts f w (case_behind l a) ss t) (stmts_code f w (case_behind l a) ss y) (stmts_uses f ss)) one.labels_are (stmts_gain f w (case_behind l a) ss t) in
      behind_it d t (with_stmts f w (case_behind l a) ss t) (stmt_code f w l a d.labels) (stmts_code f w (case_behind l a) ss (d.labels + stmt_uses f a)) (stmt_uses f a) (stmts_uses f ss) one rest

pub statements_are_listed : StatementsAreListed
statements_are_listed f w l s d = stmt_gains f w l s d

-- ---- a statement that stands last in its function

mutual
  last_gains : (f : Framed) (w : Ways) (l : ℕ) (s : Stmt) (d : Drafted) → Gains d (with_last f w l s d) (last_code f w l s d.labels) (stmt_uses f s)
  last_gains f w l (block os ss) d = lasts_gain f w l ss d
  last_gains f w l (return e) d = maybe f e d
  last_gains f w l empty d = stmt_gains f w l empty d
  last_gains f w l (eval e) d = stmt_gains f w l (eval e) d
  last_gains f w l (set_part i o e) d = stmt_gains f w l (set_part i o e) d
  last_gains f w l (clear i) d = stmt_gains f w l (clear i) d
  last_gains f w l (if_stmt e a b) d = stmt_gains f w l (if_stmt e a b) d
  last_gains f w l (while e a) d = stmt_gains f w l (while e a) d
  last_gains f w l (do_while a e) d = stmt_gains f w l (do_while a e) d
  last_gains f w l (for_loop i c n a) d = stmt_gains f w l (for_loop i c n a) d
  last_gains f w l (switch e a) d = stmt_gains f w l (switch e a) d
  last_gains f w l (case z a) d = stmt_gains f w l (case z a) d
  last_gains f w l (default a) d = stmt_gains f w l (default a) d
  last_gains f w l (label n a) d = stmt_gains f w l (label n a) d
  last_gains f w l (goto n) d = stmt_gains f w l (goto n) d
  last_gains f w l break d = stmt_gains f w l break d
  last_gains f w l continue d = stmt_gains f w l continue d

  lasts_gain : (f : Framed) (w : Ways) (l : ℕ) (ss : Stmts) (d : Drafted) → Gains d (with_lasts f w l ss d) (lasts_code f w l ss d.labels) (stmts_uses f ss)
  lasts_gain f w l no_stmts d = nothing d
  lasts_gain f w l (and_stmts a no_stmts) d = counted d (with_last f w l a d) (last_code f w l a d.labels) (stmt_uses f a) (stmts_uses f (and_stmts a no_stmts)) (last_gains f w l a d) (omega arith)
  lasts_gain f w l (and_stmts a (and_stmts b ss)) d =
      let t = with_stmt f w l a d in
      let more = and_stmts b ss in
      let one = stmt_gains f w l a d in
      let rest : Gains t (with_lasts f w (case_behind l a) more t) (lasts_code f w (case_behind l a) more (d.labels + stmt_uses f a)) (stmts_uses f more) = subst (λ y. Gains t (with_lasts f w (case_behind l a) more t) (lasts_code f w (case_behind l a) more y) (stmts_uses f more)) one.labels_are (lasts_gain f w (case_behind l a) (and_stmts b ss) t) in
      behind_it d t (with_lasts f w (case_behind l a) more t) (stmt_code f w l a d.labels) (lasts_code f w (case_behind l a) more (d.labels + stmt_uses f a)) (stmt_uses f a) (stmts_uses f more) one rest

module _ (f : Framed) (is_main : Bool) (body : Stmt) (out : RegSet) where
  function_gains : Gains (no_lines out) (with_function f is_main (Some body) (no_lines out)) (entry_code f ++ (last_code f (ways 0 0 0) 0 body (0 + 1 + body_room (Some body)) ++ (main_code (is_main && not (returns_last body)) ++ Label 0 ∷ end_code f))) (0 + 1 + body_room (Some body) + stmt_uses f body)
  function_gains =
      let d = no_lines out in
      let t0 = with_labels (body_room (Some body)) (with_labels 1 d) in
      let t1 = with_lines t0 (entry_code f) in
      let t2 = with_last f (ways 0 0 0) 0 body t1 in
      let main_end = main_code (is_main && not (returns_last body)) in
      let t3 = with_lines t2 main_end in
      let t4 = with_label 0 t3 in
      let t5 = with_lines t4 (end_code f) in
      let code = last_code f (ways 0 0 0) 0 body t1.labels in
      let last = behind_it t3 t4 t5 (Label 0 ∷ []) (end_code f) 0 0 (plain t3 (Label 0 ∷ [])) (plain t4 (end_code f)) in
      let main = behind_it t2 t3 t5 main_end (Label 0 ∷ end_code f) 0 (0 + 0) (plain t2 main_end) last in
      let all = behind_it t1 t2 t5 code (main_end ++ Label 0 ∷ end_code f) (stmt_uses f body) (0 + (0 + 0)) (last_gains f (ways 0 0 0) 0 body t1) main in
      let listed = behind_it t0 t1 t5 (entry_code f) (code ++ (main_end ++ Label 0 ∷ end_code f)) 0 (stmt_uses f body + (0 + (0 + 0))) (plain t0 (entry_code f)) all in
      given t0 d t5 (entry_code f ++ (code ++ (main_end ++ Label 0 ∷ end_code f))) (1 + body_room (Some body)) (0 + (stmt_uses f body + (0 + (0 + 0)))) (0 + 1 + body_room (Some body) + stmt_uses f body) refl refl (omega arith) (omega arith) listed

pub functions_are_listed : FunctionsAreListed
functions_are_listed f is_main body out = (function_gains f is_main body out).lines_are

pub functions_give_their_results : FunctionsGiveTheirResults
functions_give_their_results f is_main body out = (function_gains f is_main body out).out_is
