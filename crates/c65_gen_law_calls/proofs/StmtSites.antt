-- The lines of a statement call as its calls do, in their order.
use Rattle.std.proofs.Common.{◌≡◌, ℕ, ◌+◌, ◌/◌, ◌%◌, ◌==◌, Bool, true, false, ℤ, List, [], ◌∷◌, ◌++◌, length, refl, sym, ap, ◌∙◌}
use Rattle.std.specs.Prelude.{nat_lt, nat_le, if◌then◌else◌}
use Rattle.c65_csem.specs.Trees.{Typed, MaybeTyped, absent, present, Stmt, empty, eval, set_part, clear, block, if_stmt, while, do_while, for_loop, switch, case, default, label, goto, break, continue, return, Stmts, no_stmts, and_stmts}
use Rattle.c65_csem.specs.Places.{is_tag}
use Rattle.c65_csem.specs.Statements.{cases_of}
use Rattle.c65_mach.specs.declared.rows.Op.TheVariants.{Bne, Jmp, Sta, Stx, Iny, Cpy, Dex, Lda, Ldx, Ldy, Inc, Beq, Cmp, Cpx}
use Rattle.c65_code.specs.declared.line.Line.{Line}
use Rattle.c65_code.specs.declared.line.Line.TheVariants.{Label}
use Rattle.c65_code.specs.declared.routine.Width.{Width}
use Rattle.c65_code.specs.declared.routine.Width.TheVariants.{Ax, Eax}
use Rattle.c65_code.specs.Segments.{Drafted}
use Rattle.c65_genframe.specs.Frames.{Framed, type_bytes}
use Rattle.c65_genwide.specs.Lines.{value, with_lines}
use Rattle.c65_genwide.specs.Wide.{width_of}
use Rattle.c65_genload.specs.Conversions.{size_of}
use Rattle.c65_genload.specs.declared.places.Access.{Access}
use Rattle.c65_genload.specs.declared.places.Access.TheVariants.{Whole}
use Rattle.c65_genload.specs.declared.places.Place.TheVariants as places
use Rattle.c65_genexpr.specs.Types.{kind_in, bare}
use Rattle.c65_genexpr.specs.declared.wanted.Wanted.TheVariants.{Value, Test}
use Rattle.c65_genexpr.specs.Code.{expr_code}
use Rattle.c65_genentry.specs.Drafts.{with_labels}
use Rattle.c65_genentry.specs.Words.{ptr1, ptr2, tmp1, tmp2, regbank, implied, zero_page, by_y, branch, jump, with_code}
use Rattle.c65_genentry.specs.Bytes.{pages_code, rest_code, loop_labels, block_code, block_labels}
use Rattle.c65_genentry.specs.Bytes as blocks
use Rattle.c65_genentry.specs.Pointers as pointers
use Rattle.c65_genentry.specs.Choice.{bits_of, byte_of, test_code, case_codes, by_bytes, byte_tests, byte_choice, choice_code, choice_labels}
use Rattle.c65_genstmt.specs.declared.jumps.Ways.{Ways}
use Rattle.c65_genstmt.specs.declared.objects.Spot.{Spot}
use Rattle.c65_genstmt.specs.declared.objects.Spot.TheVariants.{Bank, Soft, Data}
use Rattle.c65_geneffect.specs.Effects.{effect_code}
use Rattle.c65_genstmt.specs.Jumps.{following, with_value, with_effect, with_test}
use Rattle.c65_genstmt.specs.Objects.{spot_of, object_bytes, point_code, stored_code, with_copied, with_kept, with_zeros}
use Rattle.c65_genstmt.specs.Stmts.{case_behind, with_label, with_jump, two_given, three_given, with_maybe, with_effects, with_guard, ways, default_way, with_stmt, with_stmts, with_last, with_lasts, is_empty, with_way, with_cases}
use Rattle.c65_gen_law_lines.proofs.StackPieces.{stored_leaves}
use Rattle.c65_gen_law_calls.specs.Sites.{Site, sites_of, maybe_sites, statement_sites, statements_sites}
use Rattle.c65_gen_law_calls.proofs.Callings.{Free, free_leaves, free_append, free_none, free_if, Has, has_then, has_free, has_as}
use Rattle.c65_gen_law_calls.proofs.ExprSites.{has_expression, no_sites}
use Rattle.c65_gen_law_calls.proofs.EffectSites.{effect_has}

-- between two drafts stand lines that call as these calls do
pub record Adds (f : Framed) (ss : List Site) (d e : Drafted) : Type 0 where
  pub added : List Line
  pub lines : e.lines ≡ d.lines ++ added
  pub has : Has f ss added

append_lines : (xs ys zs : List Line) → (xs ++ ys) ++ zs ≡ xs ++ (ys ++ zs)
append_lines [] ys zs = refl
append_lines (x ∷ xs) ys zs = ap (λ (l : List Line). x ∷ l) (append_lines xs ys zs)

nothing_more : (xs : List Line) → xs ≡ xs ++ []
nothing_more [] = refl
nothing_more (x ∷ xs) = ap (λ (l : List Line). x ∷ l) (nothing_more xs)

pub adds_same : {f : Framed} (d : Drafted) → Adds f [] d d
adds_same d = record { added = []; lines = nothing_more d.lines; has = record { is = refl } }

pub adds_then : {f : Framed} {ss ts : List Site} {d e g : Drafted} → Adds f ss d e → Adds f ts e g → Adds f (ss ++ ts) d g
adds_then {d = d} p q = record {
  added = p.added ++ q.added;
  lines = q.lines ∙ (ap (λ (l : List Line). l ++ q.added) p.lines ∙ append_lines d.lines p.added q.added);
  has = has_then p.has q.has;
}

adds_as : {f : Framed} {ss ts : List Site} {d e : Drafted} → ss ≡ ts → Adds f ss d e → Adds f ts d e
adds_as e p = record { added = p.added; lines = p.lines; has = has_as e p.has }

-- the same, where the first draft has no calls, or the second
pub adds_before : {f : Framed} {ts : List Site} {d e g : Drafted} → Adds f [] d e → Adds f ts e g → Adds f ts d g
adds_before p q = adds_then p q

pub adds_behind : {f : Framed} {ss : List Site} {d e g : Drafted} → Adds f ss d e → Adds f [] e g → Adds f ss d g
adds_behind {ss = ss} p q = adds_as (no_sites ss) (adds_then p q)

-- lines that call nothing
pub free_lines : {f : Framed} (d : Drafted) (a : List Line) → Free a → Adds f [] d (with_lines d a)
free_lines d a free = record { added = a; lines = refl; has = has_free free }

free_code : {f : Framed} (n : ℕ) (d : Drafted) (a : List Line) → Free a → Adds f [] d (with_code n a d)
free_code n d a free = record { added = a; lines = refl; has = has_free free }

value_adds : (f : Framed) (e : Typed) (d : Drafted) → Adds f (sites_of e) d (with_value f e d)
value_adds f e d = record { added = expr_code f 0 d.labels Value e; lines = refl; has = has_expression f 0 d.labels Value e }

effect_adds : (f : Framed) (e : Typed) (d : Drafted) → Adds f (sites_of e) d (with_effect f e d)
effect_adds f e d = record { added = effect_code f 0 d.labels e; lines = refl; has = effect_has f 0 d.labels e }

pub label_adds : {f : Framed} (l : ℕ) (d : Drafted) → Adds f [] d (with_label l d)
label_adds l d = free_lines d (Label l ∷ []) (record { none = refl })

jump_adds : {f : Framed} (l : ℕ) (d : Drafted) → Adds f [] d (with_jump l d)
jump_adds l d = free_lines d (jump Jmp l ∷ []) (record { none = refl })

-- or none, where nothing stands between
way_adds : {f : Framed} (at : Bool) (l : ℕ) (d : Drafted) → Adds f [] d (with_way at l d)
way_adds true l d = adds_same d
way_adds false l d = jump_adds l d

test_adds : (f : Framed) (to : ℕ) (s : Bool) (e : Typed) (d : Drafted) → Adds f (sites_of e) d (with_test f to s e d)
test_adds f to s e d = record { added = expr_code f 0 d.labels (Test to s) e; lines = refl; has = has_expression f 0 d.labels (Test to s) e }

-- ---- objects

pages_free : (each after : List Line) (pages l : ℕ) → Free each → Free after → Free (pages_code each after pages l)
pages_free each after pages l fe fa =
    let first : Free (value Ldx pages ∷ Label l ∷ []) = record { none = refl } in
    let next : Free (implied Iny ∷ branch Bne l ∷ []) = record { none = refl } in
    let last : Free (implied Dex ∷ branch Bne l ∷ []) = record { none = refl } in
    free_if (pages == 0) free_none (free_append first (free_append fe (free_append next (free_append fa last))))

rest_free : (each : List Line) (bytes l : ℕ) → Free each → Free (rest_code each bytes l)
rest_free each bytes l fe =
    let first : Free (Label l ∷ []) = record { none = refl } in
    let last : Free (implied Iny ∷ value Cpy bytes ∷ branch Bne l ∷ []) = record { none = refl } in
    free_if (bytes == 0) free_none (free_append first (free_append fe last))

block_free : (each after : List Line) (bytes l : ℕ) → Free each → Free after → Free (block_code each after bytes l)
block_free each after bytes l fe fa = free_append (pages_free each after (bytes / 256) l fe fa) (rest_free each (bytes % 256) (l + loop_labels (bytes / 256)) fe)

clear_free : (bytes l : ℕ) → Free (blocks.clear_code bytes l)
clear_free bytes l =
    let first : Free (value Ldy 0 ∷ value Lda 0 ∷ []) = record { none = refl } in
    free_append first (block_free (by_y Sta ptr1 ∷ []) (zero_page Inc (ptr1 + 1) ∷ []) bytes l (record { none = refl }) (record { none = refl }))

copy_free : (bytes l : ℕ) → Free (blocks.copy_code bytes l)
copy_free bytes l =
    let first : Free (value Ldy 0 ∷ []) = record { none = refl } in
    free_append first (block_free (by_y Lda ptr1 ∷ by_y Sta ptr2 ∷ []) (zero_page Inc (ptr1 + 1) ∷ zero_page Inc (ptr2 + 1) ∷ []) bytes l (record { none = refl }) (record { none = refl }))

point_free : (pointer : ℕ) (spot : Spot) → Free (point_code pointer spot)
point_free pointer (Bank b) = free_none
point_free pointer (Soft at) = record { none = refl }
point_free pointer (Data s at) = record { none = refl }

far_store_free : (at bytes : ℕ) → Free (pointers.far_store at bytes)
far_store_free at bytes =
    let upper : Free pointers.upper_bytes = record { none = refl } in
    let second : Free pointers.second_byte = record { none = refl } in
    let third : Free (pointers.third_bytes bytes) = free_if (nat_lt bytes 3) free_none upper in
    let further : Free (pointers.further_bytes bytes) = free_if (nat_lt bytes 2) free_none (free_append second third) in
    let first : Free (zero_page Sta tmp1 ∷ zero_page Stx tmp2 ∷ []) = record { none = refl } in
    let near : Free (pointers.near_code ptr1 at) = record { none = refl } in
    let lowest : Free (value Ldy 0 ∷ zero_page Lda tmp1 ∷ by_y Sta ptr1 ∷ []) = record { none = refl } in
    free_append first (free_append near (free_append lowest further))

stored_free : (spot : Spot) (access : Access) (bytes : ℕ) → Free (stored_code spot access bytes)
stored_free (Bank b) access bytes = free_leaves (stored_leaves (places.Bank b) access [])
stored_free (Soft at) access bytes = free_if (nat_le at 252) (free_leaves (stored_leaves (places.Near at) access [])) (far_store_free at bytes)
stored_free (Data s at) access bytes = free_leaves (stored_leaves (places.Data s at) access [])

bank_clear_free : (bank bytes : ℕ) → Free (pointers.clear_code bank bytes)
bank_clear_free bank bytes =
    let first : Free (value Lda 0 ∷ zero_page Sta ((regbank + bank) % 256) ∷ []) = record { none = refl } in
    let second : Free (zero_page Sta (((regbank + bank) % 256 + 1) % 256) ∷ []) = record { none = refl } in
    free_append first (free_if (nat_lt bytes 2) free_none second)

copied_adds : {f : Framed} (spot : Spot) (bytes : ℕ) (d : Drafted) → Adds f [] d (with_copied spot bytes d)
copied_adds spot bytes d =
    let a : Drafted = with_lines d (zero_page Sta ptr1 ∷ zero_page Stx (ptr1 + 1) ∷ []) in
    let b : Drafted = with_lines a (point_code ptr2 spot) in
    adds_before (free_lines d (zero_page Sta ptr1 ∷ zero_page Stx (ptr1 + 1) ∷ []) (record { none = refl })) (adds_before (free_lines a (point_code ptr2 spot) (point_free ptr2 spot)) (free_code (block_labels (bytes % 65536)) b (blocks.copy_code (bytes % 65536) d.labels) (copy_free (bytes % 65536) d.labels)))

kept_adds : (tagged : Bool) (f : Framed) (spot : Spot) (e : Typed) (d : Drafted) → Adds f [] d (with_kept tagged f spot e d)
kept_adds true f spot e d = copied_adds spot (type_bytes f (bare e)) d
kept_adds false f spot e d = free_lines d (stored_code spot (Whole (kind_in e)) (size_of (kind_in e))) (stored_free spot (Whole (kind_in e)) (size_of (kind_in e)))

cleared_adds : {f : Framed} (pointer : List Line) (bytes : ℕ) (d : Drafted) → Free pointer → Adds f [] d (with_code (block_labels bytes) (blocks.clear_code bytes d.labels) (with_lines d pointer))
cleared_adds pointer bytes d free = adds_before (free_lines d pointer free) (free_code (block_labels bytes) (with_lines d pointer) (blocks.clear_code bytes d.labels) (clear_free bytes d.labels))

zeros_adds : {f : Framed} (spot : Spot) (bytes : ℕ) (d : Drafted) → Adds f [] d (with_zeros spot bytes d)
zeros_adds (Bank bank) bytes d = free_lines d (pointers.clear_code bank bytes) (bank_clear_free bank bytes)
zeros_adds (Soft at) bytes d = cleared_adds (pointers.near_code ptr1 at) (bytes % 65536) d (point_free ptr1 (Soft at))
zeros_adds (Data sym at) bytes d = cleared_adds (pointers.symbol_code ptr1 sym at) (bytes % 65536) d (point_free ptr1 (Data sym at))

-- ---- the choice of a case

test_lines : (w : Width) (bits other at : ℕ) → Free (test_code w bits other at)
test_lines Ax bits other at = record { none = refl }
test_lines Eax bits other at = record { none = refl }

cases_free : (w : Width) (at l : ℕ) (zs : List ℤ) → Free (case_codes w at l zs)
cases_free w at l [] = free_none
cases_free w at l (z ∷ zs) =
    let last : Free (Label l ∷ []) = record { none = refl } in
    free_append (free_append (test_lines w (bits_of z) l at) last) (cases_free w ((at + 1) % 4294967296) (l + 1) zs)

bytes_free : (at : ℕ) (zs : List ℤ) → Free (byte_tests at zs)
bytes_free at [] = free_none
bytes_free at (z ∷ zs) =
    let first : Free (value Cmp (byte_of (bits_of z) 1) ∷ branch Beq at ∷ []) = record { none = refl } in
    free_append first (bytes_free ((at + 1) % 4294967296) zs)

choice_free : (w : Width) (other at l : ℕ) (zs : List ℤ) → Free (choice_code w other at l zs)
choice_free w other at l zs = by (by_bytes w zs)
  where
    by : (b : Bool) → Free (if b then byte_choice other at zs else case_codes w at l zs)
    by true =
        let first : Free (value Cpx 0 ∷ branch Bne other ∷ []) = record { none = refl } in
        free_append first (bytes_free at zs)
    by false = cases_free w at l zs

-- ---- statements

maybe_adds : (f : Framed) (e : MaybeTyped) (d : Drafted) → Adds f (maybe_sites e) d (with_maybe f e d)
maybe_adds f absent d = adds_same d
maybe_adds f (present e) d = value_adds f e d

effects_add : (f : Framed) (e : MaybeTyped) (d : Drafted) → Adds f (maybe_sites e) d (with_effects f e d)
effects_add f absent d = adds_same d
effects_add f (present e) d = effect_adds f e d

guard_adds : (f : Framed) (to : ℕ) (e : MaybeTyped) (d : Drafted) → Adds f (maybe_sites e) d (with_guard f to e d)
guard_adds f to absent d = adds_same d
guard_adds f to (present e) d = test_adds f to false e d

-- labels that are given change no lines
given_adds : {f : Framed} {ss : List Site} {d e g : Drafted} → d.lines ≡ e.lines → Adds f ss e g → Adds f ss d g
given_adds same p = record { added = p.added; lines = p.lines ∙ ap (λ (l : List Line). l ++ p.added) (sym same); has = p.has }

mutual
  stmt_adds : (f : Framed) (w : Ways) (l : ℕ) (s : Stmt) (d : Drafted) → Adds f (statement_sites s) d (with_stmt f w l s d)
  stmt_adds f w l empty d = adds_same d
  stmt_adds f w l (eval e) d = effect_adds f e d
  stmt_adds f w l (set_part i o e) d = adds_behind (value_adds f e d) (kept_adds (is_tag (bare e)) f (spot_of f i o) e (with_value f e d))
  stmt_adds f w l (clear i) d = zeros_adds (spot_of f i 0) (object_bytes f i) d
  stmt_adds f w l (block os ss) d = stmts_add f w l ss d
  stmt_adds f w l (if_stmt e a b) d =
      let m1 : Drafted = with_test f d.labels false e (two_given d) in
      let m2 : Drafted = with_stmt f w l a m1 in
      let m3 : Drafted = with_way (is_empty b) (d.labels + 1) m2 in
      let m4 : Drafted = with_label d.labels m3 in
      let m5 : Drafted = with_stmt f w (case_behind l a) b m4 in
      given_adds {e = two_given d} refl (adds_then (test_adds f d.labels false e (two_given d)) (adds_then (stmt_adds f w l a m1)
      (adds_before (way_adds (is_empty b) (d.labels + 1) m2) (adds_before (label_adds d.labels m3) (adds_behind (stmt_adds f w (case_behind l a) b m4) (label_adds (d.labels + 1) m5))))))
  stmt_adds f w l (while e a) d =
      let m1 : Drafted = with_label d.labels (two_given d) in
      let m2 : Drafted = with_test f (d.labels + 1) false e m1 in
      let inner : Ways = ways (d.labels + 1) d.labels w.other in
      let m3 : Drafted = with_stmt f inner l a m2 in
      let m4 : Drafted = with_jump d.labels m3 in
      given_adds {e = two_given d} refl (adds_before (label_adds d.labels (two_given d)) (adds_then (test_adds f (d.labels + 1) false e m1)
      (adds_behind (adds_behind (stmt_adds f inner l a m2) (jump_adds d.labels m3)) (label_adds (d.labels + 1) m4))))
  stmt_adds f w l (do_while a e) d =
      let m1 : Drafted = with_label d.labels (three_given d) in
      let inner : Ways = ways (d.labels + 1 + 1) (d.labels + 1) w.other in
      let m2 : Drafted = with_stmt f inner l a m1 in
      let m3 : Drafted = with_label (d.labels + 1) m2 in
      let m4 : Drafted = with_test f d.labels true e m3 in
      given_adds {e = three_given d} refl (adds_before (label_adds d.labels (three_given d)) (adds_then (stmt_adds f inner l a m1)
      (adds_before (label_adds (d.labels + 1) m2) (adds_behind (test_adds f d.labels true e m3) (label_adds (d.labels + 1 + 1) m4)))))
  stmt_adds f w l (for_loop i t n a) d =
      let g : Drafted = with_effects f i d in
      let m1 : Drafted = with_label g.labels (three_given g) in
      let m2 : Drafted = with_guard f (g.labels + 1 + 1) t m1 in
      let inner : Ways = ways (g.labels + 1 + 1) (g.labels + 1) w.other in
      let m3 : Drafted = with_stmt f inner l a m2 in
      let m4 : Drafted = with_label (g.labels + 1) m3 in
      let m5 : Drafted = with_effects f n m4 in
      let m6 : Drafted = with_jump g.labels m5 in
      let loop : Adds f (maybe_sites t ++ (statement_sites a ++ maybe_sites n)) g (with_label (g.labels + 1 + 1) m6) =
      given_adds {e = three_given g} refl (adds_before (label_adds g.labels (three_given g)) (adds_then (guard_adds f (g.labels + 1 + 1) t m1) (adds_then (stmt_adds f inner l a m2)
      (adds_before (label_adds (g.labels + 1) m3) (adds_behind (adds_behind (effects_add f n m4) (jump_adds g.labels m5)) (label_adds (g.labels + 1 + 1) m6)))))) in
      adds_then (effects_add f i d) loop
  stmt_adds f w l (switch e a) d =
      let cases : List ℤ = cases_of a in
      let m0 : Drafted = with_labels (length cases) (two_given d) in
      let g : Drafted = with_value f e m0 in
      let m1 : Drafted = with_cases (width_of (kind_in e)) (default_way a d.labels) (d.labels + 1 + 1) cases g in
      let m2 : Drafted = with_jump (default_way a d.labels) m1 in
      let inner : Ways = ways d.labels w.onward (d.labels + 1) in
      let m3 : Drafted = with_stmt f inner (d.labels + 1 + 1) a m2 in
      given_adds {e = m0} refl (adds_then (value_adds f e m0) (adds_before (free_code (choice_labels (width_of (kind_in e)) cases) g (choice_code (width_of (kind_in e)) (default_way a d.labels) (d.labels + 1 + 1) g.labels cases) (choice_free (width_of (kind_in e)) (default_way a d.labels) (d.labels + 1 + 1) g.labels cases))
      (adds_before (jump_adds (default_way a d.labels) m1) (adds_behind (stmt_adds f inner (d.labels + 1 + 1) a m2) (label_adds d.labels m3)))))
  stmt_adds f w l (case z a) d = adds_before (label_adds l d) (stmt_adds f w (following l) a (with_label l d))
  stmt_adds f w l (default a) d = adds_before (label_adds w.other d) (stmt_adds f w l a (with_label w.other d))
  stmt_adds f w l (label n a) d = adds_before (label_adds (following n) d) (stmt_adds f w l a (with_label (following n) d))
  stmt_adds f w l (goto n) d = jump_adds (following n) d
  stmt_adds f w l break d = jump_adds w.behind d
  stmt_adds f w l continue d = jump_adds w.onward d
  stmt_adds f w l (return e) d = adds_behind (maybe_adds f e d) (jump_adds 0 (with_maybe f e d))

  stmts_add : (f : Framed) (w : Ways) (l : ℕ) (ss : Stmts) (d : Drafted) → Adds f (statements_sites ss) d (with_stmts f w l ss d)
  stmts_add f w l no_stmts d = adds_same d
  stmts_add f w l (and_stmts a ss) d = adds_then (stmt_adds f w l a d) (stmts_add f w (case_behind l a) ss (with_stmt f w l a d))

-- ---- what stands last

mutual
  pub last_adds : (f : Framed) (w : Ways) (l : ℕ) (s : Stmt) (d : Drafted) → Adds f (statement_sites s) d (with_last f w l s d)
  last_adds f w l (block os ss) d = lasts_add f w l ss d
  last_adds f w l (return e) d = maybe_adds f e d
  last_adds f w l a d = stmt_adds f w l a d

  lasts_add : (f : Framed) (w : Ways) (l : ℕ) (ss : Stmts) (d : Drafted) → Adds f (statements_sites ss) d (with_lasts f w l ss d)
  lasts_add f w l no_stmts d = adds_same d
  lasts_add f w l (and_stmts a no_stmts) d = adds_then (last_adds f w l a d) (adds_same (with_last f w l a d))
  lasts_add f w l (and_stmts a (and_stmts b ss)) d = adds_then (stmt_adds f w l a d) (lasts_add f w (case_behind l a) (and_stmts b ss) (with_stmt f w l a d))
