-- The lines of statements leave what waits on the software stack.
use Rattle.std.proofs.Common.{◌≡◌, ℕ, ◌+◌, ◌/◌, ◌%◌, ◌==◌, Bool, true, false, Some, ℤ, List, [], ◌∷◌, ◌++◌, length, refl, sym, ◌∙◌, ap}
use Rattle.std.specs.Prelude.{nat_lt, nat_le, Option, if◌then◌else◌}
use Rattle.c65_csem.specs.Trees.{Typed, MaybeTyped, absent, present, Stmt, empty, eval, set_part, clear, block, if_stmt, while, do_while, for_loop, switch, case, default, label, goto, break, continue, return, Stmts, no_stmts, and_stmts}
use Rattle.c65_csem.specs.Places.{is_tag}
use Rattle.c65_csem.specs.Statements.{cases_of}
use Rattle.c65_mach.specs.declared.rows.Op.TheVariants.{Bne, Jmp, Sta, Stx, Iny, Cpy, Dex, Lda, Ldx, Ldy, Inc, Beq, Cmp, Cpx}
use Rattle.c65_code.specs.declared.line.Line.{Line}
use Rattle.c65_code.specs.declared.line.Line.TheVariants.{Label}
use Rattle.c65_code.specs.declared.routine.Width.{Width}
use Rattle.c65_code.specs.declared.routine.Width.TheVariants.{Ax, Eax}
use Rattle.c65_code.specs.Segments.{Drafted}
use Rattle.c65_genframe.specs.Frames.{Framed, type_bytes}
use Rattle.c65_genwide.specs.Lines.{value, with_lines}
use Rattle.c65_genwide.specs.Wide.{width_of}
use Rattle.c65_genload.specs.Conversions.{size_of}
use Rattle.c65_genload.specs.declared.places.Access.{Access}
use Rattle.c65_genload.specs.declared.places.Access.TheVariants.{Whole}
use Rattle.c65_genload.specs.declared.places.Place.TheVariants as places
use Rattle.c65_genexpr.specs.declared.wanted.Wanted.TheVariants.{Value, Test}
use Rattle.c65_genexpr.specs.Types.{kind_in, bare}
use Rattle.c65_genexpr.specs.Code.{expr_code}
use Rattle.c65_genentry.specs.Drafts.{with_labels}
use Rattle.c65_genentry.specs.Words.{ptr1, ptr2, tmp1, tmp2, regbank, implied, zero_page, by_y, branch, jump, with_code}
use Rattle.c65_genentry.specs.Bytes.{pages_code, rest_code, loop_labels, block_code, block_labels}
use Rattle.c65_genentry.specs.Bytes as blocks
use Rattle.c65_genentry.specs.Pointers as pointers
use Rattle.c65_genentry.specs.Choice.{bits_of, byte_of, test_code, case_codes, by_bytes, byte_tests, byte_choice, choice_code, choice_labels}
use Rattle.c65_genstmt.specs.declared.jumps.Ways.{Ways}
use Rattle.c65_genstmt.specs.declared.objects.Spot.{Spot}
use Rattle.c65_genstmt.specs.declared.objects.Spot.TheVariants.{Bank, Soft, Data}
use Rattle.c65_geneffect.specs.Effects.{effect_code}
use Rattle.c65_genstmt.specs.Jumps.{following, with_value, with_effect, with_test}
use Rattle.c65_genstmt.specs.Objects.{spot_of, object_bytes, point_code, stored_code, with_copied, with_kept, with_zeros}
use Rattle.c65_genstmt.specs.Stmts.{case_behind, with_label, with_jump, two_given, three_given, with_maybe, with_effects, with_guard, ways, default_way, with_stmt, with_stmts, is_empty, with_way, with_cases}
use Rattle.c65_gen_law_lines.specs.Stack.{Waiting, waiting_by, waits, calls_of, maybe_calls, statement_calls, statements_calls}
use Rattle.c65_gen_law_lines.specs.Laws.{StatementsKeepTheStack}
use Rattle.c65_gen_law_lines.proofs.StackPieces.{waits_append, Leaves, leaves_then, leaves_none, leaves_if, Still, stored_leaves}
use Rattle.c65_gen_law_lines.proofs.StackLaws.{joined, expressions_keep_the_stack}
use Rattle.c65_gen_law_lines.proofs.EffectLaws.{effect_does}

-- between two drafts stand lines that leave what waits, by these calls
record Keeps (cs : List (List ℕ)) (d e : Drafted) : Type 0 where
  keeps : (start : Option Waiting) (v : List ℕ) (rest : List (List ℕ)) → waits start d.lines ≡ Some (waiting_by v (cs ++ rest)) → waits start e.lines ≡ Some (waiting_by v rest)

keeps_same : {d : Drafted} → Keeps [] d d
keeps_same = record { keeps = λ start v rest h. h }

keeps_then : {cs ds : List (List ℕ)} {d e g : Drafted} → Keeps cs d e → Keeps ds e g → Keeps (cs ++ ds) d g
keeps_then {cs = cs} {ds = ds} p q = record { keeps = λ start v rest h. q.keeps start v rest (p.keeps start v (ds ++ rest) (h ∙ ap (λ calls. Some (waiting_by v calls)) (joined cs ds rest))) }

-- the same, where the first draft has no calls, or the second
keeps_before : {ds : List (List ℕ)} {d e g : Drafted} → Keeps [] d e → Keeps ds e g → Keeps ds d g
keeps_before {ds = ds} p q = record { keeps = λ start v rest h. q.keeps start v rest (p.keeps start v (ds ++ rest) h) }

keeps_behind : {cs : List (List ℕ)} {d e g : Drafted} → Keeps cs d e → Keeps [] e g → Keeps cs d g
keeps_behind p q = record { keeps = λ start v rest h. q.keeps start v rest (p.keeps start v rest h) }

-- lines that call nothing
still_lines : (d : Drafted) (a : List Line) → Still a → Keeps [] d (with_lines d a)
still_lines d a still = record { keeps = λ start v rest h. waits_append d.lines a start ∙ (ap (λ w. waits w a) h ∙ (still v).to rest) }

still_code : (n : ℕ) (d : Drafted) (a : List Line) → Still a → Keeps [] d (with_code n a d)
still_code n d a still = record { keeps = λ start v rest h. waits_append d.lines a start ∙ (ap (λ w. waits w a) h ∙ (still v).to rest) }

effect_keeps : (f : Framed) (e : Typed) (d : Drafted) → Keeps (calls_of f e) d (with_effect f e d)
effect_keeps f e d = record { keeps = λ start v rest h. waits_append d.lines (effect_code f 0 d.labels e) start ∙ (ap (λ w. waits w (effect_code f 0 d.labels e)) h ∙ (effect_does f 0 d.labels e v).to rest) }

value_keeps : (f : Framed) (e : Typed) (d : Drafted) → Keeps (calls_of f e) d (with_value f e d)
value_keeps f e d = record { keeps = λ start v rest h. waits_append d.lines (expr_code f 0 d.labels Value e) start ∙ (ap (λ w. waits w (expr_code f 0 d.labels Value e)) h ∙ expressions_keep_the_stack f 0 d.labels Value e v rest) }

one_label : (l : ℕ) → Still (Label l ∷ [])
one_label l v = record { to = λ calls. refl }

one_jump : (l : ℕ) → Still (jump Jmp l ∷ [])
one_jump l v = record { to = λ calls. refl }

label_keeps : (l : ℕ) (d : Drafted) → Keeps [] d (with_label l d)
label_keeps l d = still_lines d (Label l ∷ []) (one_label l)

jump_keeps : (l : ℕ) (d : Drafted) → Keeps [] d (with_jump l d)
jump_keeps l d = still_lines d (jump Jmp l ∷ []) (one_jump l)

way_keeps : (at : Bool) (l : ℕ) (d : Drafted) → Keeps [] d (with_way at l d)
way_keeps true l d = keeps_same
way_keeps false l d = jump_keeps l d

test_keeps : (f : Framed) (to : ℕ) (s : Bool) (e : Typed) (d : Drafted) → Keeps (calls_of f e) d (with_test f to s e d)
test_keeps f to s e d = record { keeps = λ start v rest h. waits_append d.lines (expr_code f 0 d.labels (Test to s) e) start ∙ (ap (λ w. waits w (expr_code f 0 d.labels (Test to s) e)) h ∙ expressions_keep_the_stack f 0 d.labels (Test to s) e v rest) }

-- ---- objects

pages_still : (each after : List Line) (pages l : ℕ) → Still each → Still after → Still (pages_code each after pages l)
pages_still each after pages l se sa v =
    let first : Leaves v (value Ldx pages ∷ Label l ∷ []) v = record { to = λ calls. refl } in
    let next : Leaves v (implied Iny ∷ branch Bne l ∷ []) v = record { to = λ calls. refl } in
    let last : Leaves v (implied Dex ∷ branch Bne l ∷ []) v = record { to = λ calls. refl } in
    leaves_if (pages == 0) leaves_none (leaves_then first (leaves_then (se v) (leaves_then next (leaves_then (sa v) last))))

rest_still : (each : List Line) (bytes l : ℕ) → Still each → Still (rest_code each bytes l)
rest_still each bytes l se v =
    let last : Leaves v (implied Iny ∷ value Cpy bytes ∷ branch Bne l ∷ []) v = record { to = λ calls. refl } in
    let first : Leaves v (Label l ∷ []) v = record { to = λ calls. refl } in
    leaves_if (bytes == 0) leaves_none (leaves_then first (leaves_then (se v) last))

block_still : (each after : List Line) (bytes l : ℕ) → Still each → Still after → Still (block_code each after bytes l)
block_still each after bytes l se sa v = leaves_then (pages_still each after (bytes / 256) l se sa v) (rest_still each (bytes % 256) (l + loop_labels (bytes / 256)) se v)

store_one : Still (by_y Sta ptr1 ∷ [])
store_one v = record { to = λ calls. refl }

copy_one : Still (by_y Lda ptr1 ∷ by_y Sta ptr2 ∷ [])
copy_one v = record { to = λ calls. refl }

next_one : Still (zero_page Inc (ptr1 + 1) ∷ [])
next_one v = record { to = λ calls. refl }

next_two : Still (zero_page Inc (ptr1 + 1) ∷ zero_page Inc (ptr2 + 1) ∷ [])
next_two v = record { to = λ calls. refl }

clear_still : (bytes l : ℕ) → Still (blocks.clear_code bytes l)
clear_still bytes l v = leaves_then {a = value Ldy 0 ∷ value Lda 0 ∷ []} (record { to = λ calls. refl }) (block_still (by_y Sta ptr1 ∷ []) (zero_page Inc (ptr1 + 1) ∷ []) bytes l store_one next_one v)

copy_still : (bytes l : ℕ) → Still (blocks.copy_code bytes l)
copy_still bytes l v = leaves_then {a = value Ldy 0 ∷ []} (record { to = λ calls. refl }) (block_still (by_y Lda ptr1 ∷ by_y Sta ptr2 ∷ []) (zero_page Inc (ptr1 + 1) ∷ zero_page Inc (ptr2 + 1) ∷ []) bytes l copy_one next_two v)

point_still : (pointer : ℕ) (spot : Spot) → Still (point_code pointer spot)
point_still pointer (Bank b) v = leaves_none
point_still pointer (Soft at) v = record { to = λ calls. refl }
point_still pointer (Data s at) v = record { to = λ calls. refl }

far_store_still : (at bytes : ℕ) → Still (pointers.far_store at bytes)
far_store_still at bytes v =
    let upper : Leaves v pointers.upper_bytes v = record { to = λ calls. refl } in
    let second : Leaves v pointers.second_byte v = record { to = λ calls. refl } in
    let third : Leaves v (pointers.third_bytes bytes) v = leaves_if (nat_lt bytes 3) leaves_none upper in
    let further : Leaves v (pointers.further_bytes bytes) v = leaves_if (nat_lt bytes 2) leaves_none (leaves_then second third) in
    let first : Leaves v (zero_page Sta tmp1 ∷ zero_page Stx tmp2 ∷ []) v = record { to = λ calls. refl } in
    let near : Leaves v (pointers.near_code ptr1 at) v = record { to = λ calls. refl } in
    let lowest : Leaves v (value Ldy 0 ∷ zero_page Lda tmp1 ∷ by_y Sta ptr1 ∷ []) v = record { to = λ calls. refl } in
    leaves_then first (leaves_then near (leaves_then lowest further))

stored_still : (spot : Spot) (access : Access) (bytes : ℕ) → Still (stored_code spot access bytes)
stored_still (Bank b) access bytes v = stored_leaves (places.Bank b) access v
stored_still (Soft at) access bytes v = leaves_if (nat_le at 252) (stored_leaves (places.Near at) access v) (far_store_still at bytes v)
stored_still (Data s at) access bytes v = stored_leaves (places.Data s at) access v

bank_clear_still : (bank bytes : ℕ) → Still (pointers.clear_code bank bytes)
bank_clear_still bank bytes v =
    let first : Leaves v (value Lda 0 ∷ zero_page Sta ((regbank + bank) % 256) ∷ []) v = record { to = λ calls. refl } in
    let second : Leaves v (zero_page Sta (((regbank + bank) % 256 + 1) % 256) ∷ []) v = record { to = λ calls. refl } in
    leaves_then first (leaves_if (nat_lt bytes 2) leaves_none second)

copied_keeps : (spot : Spot) (bytes : ℕ) (d : Drafted) → Keeps [] d (with_copied spot bytes d)
copied_keeps spot bytes d =
    let a : Drafted = with_lines d (zero_page Sta ptr1 ∷ zero_page Stx (ptr1 + 1) ∷ []) in
    let b : Drafted = with_lines a (point_code ptr2 spot) in
    let first : Keeps [] d a = still_lines d (zero_page Sta ptr1 ∷ zero_page Stx (ptr1 + 1) ∷ []) (λ v. record { to = λ calls. refl }) in
    keeps_before first (keeps_before (still_lines a (point_code ptr2 spot) (point_still ptr2 spot)) (still_code (block_labels (bytes % 65536)) b (blocks.copy_code (bytes % 65536) d.labels) (copy_still (bytes % 65536) d.labels)))

kept_keeps : (tagged : Bool) (f : Framed) (spot : Spot) (e : Typed) (d : Drafted) → Keeps [] d (with_kept tagged f spot e d)
kept_keeps true f spot e d = copied_keeps spot (type_bytes f (bare e)) d
kept_keeps false f spot e d = still_lines d (stored_code spot (Whole (kind_in e)) (size_of (kind_in e))) (stored_still spot (Whole (kind_in e)) (size_of (kind_in e)))

cleared_keeps : (pointer : List Line) (bytes : ℕ) (d : Drafted) → Still pointer → Keeps [] d (with_code (block_labels bytes) (blocks.clear_code bytes d.labels) (with_lines d pointer))
cleared_keeps pointer bytes d still = keeps_before (still_lines d pointer still) (still_code (block_labels bytes) (with_lines d pointer) (blocks.clear_code bytes d.labels) (clear_still bytes d.labels))

zeros_keeps : (spot : Spot) (bytes : ℕ) (d : Drafted) → Keeps [] d (with_zeros spot bytes d)
zeros_keeps (Bank bank) bytes d = still_lines d (pointers.clear_code bank bytes) (bank_clear_still bank bytes)
zeros_keeps (Soft at) bytes d = cleared_keeps (pointers.near_code ptr1 at) (bytes % 65536) d (point_still ptr1 (Soft at))
zeros_keeps (Data sym at) bytes d = cleared_keeps (pointers.symbol_code ptr1 sym at) (bytes % 65536) d (point_still ptr1 (Data sym at))

-- ---- the choice of a case

test_lines : (w : Width) (bits other at : ℕ) → Still (test_code w bits other at)
test_lines Ax bits other at v = record { to = λ calls. refl }
test_lines Eax bits other at v = record { to = λ calls. refl }

cases_still : (w : Width) (at l : ℕ) (zs : List ℤ) → Still (case_codes w at l zs)
cases_still w at l [] v = leaves_none
cases_still w at l (z ∷ zs) v = leaves_then (leaves_then (test_lines w (bits_of z) l at v) (one_label l v)) (cases_still w ((at + 1) % 4294967296) (l + 1) zs v)

bytes_still : (at : ℕ) (zs : List ℤ) → Still (byte_tests at zs)
bytes_still at [] v = leaves_none
bytes_still at (z ∷ zs) v = leaves_then {a = value Cmp (byte_of (bits_of z) 1) ∷ branch Beq at ∷ []} (record { to = λ calls. refl }) (bytes_still ((at + 1) % 4294967296) zs v)

choice_still : (w : Width) (other at l : ℕ) (zs : List ℤ) → Still (choice_code w other at l zs)
choice_still w other at l zs v = by (by_bytes w zs)
  where
    by : (b : Bool) → Leaves v (if b then byte_choice other at zs else case_codes w at l zs) v
    by true = leaves_then {a = value Cpx 0 ∷ branch Bne other ∷ []} (record { to = λ calls. refl }) (bytes_still at zs v)
    by false = cases_still w at l zs v

-- ---- statements

maybe_keeps : (f : Framed) (e : MaybeTyped) (d : Drafted) → Keeps (maybe_calls f e) d (with_maybe f e d)
maybe_keeps f absent d = keeps_same
maybe_keeps f (present e) d = value_keeps f e d

effects_keep : (f : Framed) (e : MaybeTyped) (d : Drafted) → Keeps (maybe_calls f e) d (with_effects f e d)
effects_keep f absent d = keeps_same
effects_keep f (present e) d = effect_keeps f e d

guard_keeps : (f : Framed) (to : ℕ) (e : MaybeTyped) (d : Drafted) → Keeps (maybe_calls f e) d (with_guard f to e d)
guard_keeps f to absent d = keeps_same
guard_keeps f to (present e) d = test_keeps f to false e d

-- labels that are given change no lines
given_keeps : {cs : List (List ℕ)} {d e g : Drafted} → d.lines ≡ e.lines → Keeps cs e g → Keeps cs d g
given_keeps same p = record { keeps = λ start v rest h. p.keeps start v rest (ap (waits start) (sym same) ∙ h) }

mutual
  stmt_keeps : (f : Framed) (w : Ways) (l : ℕ) (s : Stmt) (d : Drafted) → Keeps (statement_calls f s) d (with_stmt f w l s d)
  stmt_keeps f w l empty d = keeps_same
  stmt_keeps f w l (eval e) d = effect_keeps f e d
  stmt_keeps f w l (set_part i o e) d = keeps_behind (value_keeps f e d) (kept_keeps (is_tag (bare e)) f (spot_of f i o) e (with_value f e d))
  stmt_keeps f w l (clear i) d = zeros_keeps (spot_of f i 0) (object_bytes f i) d
  stmt_keeps f w l (block os ss) d = stmts_keep f w l ss d
  stmt_keeps f w l (if_stmt e a b) d =
      let m1 : Drafted = with_test f d.labels false e (two_given d) in
      let m2 : Drafted = with_stmt f w l a m1 in
      let m3 : Drafted = with_way (is_empty b) (d.labels + 1) m2 in
      let m4 : Drafted = with_label d.labels m3 in
      let m5 : Drafted = with_stmt f w (case_behind l a) b m4 in
      given_keeps {e = two_given d} refl (keeps_then (test_keeps f d.labels false e (two_given d)) (keeps_then (stmt_keeps f w l a m1)
      (keeps_before (way_keeps (is_empty b) (d.labels + 1) m2) (keeps_before (label_keeps d.labels m3) (keeps_behind (stmt_keeps f w (case_behind l a) b m4) (label_keeps (d.labels + 1) m5))))))
  stmt_keeps f w l (while e a) d =
      let m1 : Drafted = with_label d.labels (two_given d) in
      let m2 : Drafted = with_test f (d.labels + 1) false e m1 in
      let inner : Ways = ways (d.labels + 1) d.labels w.other in
      let m3 : Drafted = with_stmt f inner l a m2 in
      let m4 : Drafted = with_jump d.labels m3 in
      given_keeps {e = two_given d} refl (keeps_before (label_keeps d.labels (two_given d)) (keeps_then (test_keeps f (d.labels + 1) false e m1)
      (keeps_behind (keeps_behind (stmt_keeps f inner l a m2) (jump_keeps d.labels m3)) (label_keeps (d.labels + 1) m4))))
  stmt_keeps f w l (do_while a e) d =
      let m1 : Drafted = with_label d.labels (three_given d) in
      let inner : Ways = ways (d.labels + 1 + 1) (d.labels + 1) w.other in
      let m2 : Drafted = with_stmt f inner l a m1 in
      let m3 : Drafted = with_label (d.labels + 1) m2 in
      let m4 : Drafted = with_test f d.labels true e m3 in
      given_keeps {e = three_given d} refl (keeps_before (label_keeps d.labels (three_given d)) (keeps_then (stmt_keeps f inner l a m1)
      (keeps_before (label_keeps (d.labels + 1) m2) (keeps_behind (test_keeps f d.labels true e m3) (label_keeps (d.labels + 1 + 1) m4)))))
  stmt_keeps f w l (for_loop i t n a) d =
      let g : Drafted = with_effects f i d in
      let m1 : Drafted = with_label g.labels (three_given g) in
      let m2 : Drafted = with_guard f (g.labels + 1 + 1) t m1 in
      let inner : Ways = ways (g.labels + 1 + 1) (g.labels + 1) w.other in
      let m3 : Drafted = with_stmt f inner l a m2 in
      let m4 : Drafted = with_label (g.labels + 1) m3 in
      let m5 : Drafted = with_effects f n m4 in
      let m6 : Drafted = with_jump g.labels m5 in
      let loop : Keeps (maybe_calls f t ++ (statement_calls f a ++ maybe_calls f n)) g (with_label (g.labels + 1 + 1) m6) =
      given_keeps {e = three_given g} refl (keeps_before (label_keeps g.labels (three_given g)) (keeps_then (guard_keeps f (g.labels + 1 + 1) t m1) (keeps_then (stmt_keeps f inner l a m2)
      (keeps_before (label_keeps (g.labels + 1) m3) (keeps_behind (keeps_behind (effects_keep f n m4) (jump_keeps g.labels m5)) (label_keeps (g.labels + 1 + 1) m6)))))) in
      keeps_then (effects_keep f i d) loop
  stmt_keeps f w l (switch e a) d =
      let cases : List ℤ = cases_of a in
      let m0 : Drafted = with_labels (length cases) (two_given d) in
      let g : Drafted = with_value f e m0 in
      let m1 : Drafted = with_cases (width_of (kind_in e)) (default_way a d.labels) (d.labels + 1 + 1) cases g in
      let m2 : Drafted = with_jump (default_way a d.labels) m1 in
      let inner : Ways = ways d.labels w.onward (d.labels + 1) in
      let m3 : Drafted = with_stmt f inner (d.labels + 1 + 1) a m2 in
      given_keeps {e = m0} refl (keeps_then (value_keeps f e m0) (keeps_before (still_code (choice_labels (width_of (kind_in e)) cases) g (choice_code (width_of (kind_in e)) (default_way a d.labels) (d.labels + 1 + 1) g.labels cases) (choice_still (width_of (kind_in e)) (default_way a d.labels) (d.labels + 1 + 1) g.labels cases))
      (keeps_before (jump_keeps (default_way a d.labels) m1) (keeps_behind (stmt_keeps f inner (d.labels + 1 + 1) a m2) (label_keeps d.labels m3)))))
  stmt_keeps f w l (case z a) d = keeps_before (label_keeps l d) (stmt_keeps f w (following l) a (with_label l d))
  stmt_keeps f w l (default a) d = keeps_before (label_keeps w.other d) (stmt_keeps f w l a (with_label w.other d))
  stmt_keeps f w l (label n a) d = keeps_before (label_keeps (following n) d) (stmt_keeps f w l a (with_label (following n) d))
  stmt_keeps f w l (goto n) d = jump_keeps (following n) d
  stmt_keeps f w l break d = jump_keeps w.behind d
  stmt_keeps f w l continue d = jump_keeps w.onward d
  stmt_keeps f w l (return e) d = keeps_behind (maybe_keeps f e d) (jump_keeps 0 (with_maybe f e d))

  stmts_keep : (f : Framed) (w : Ways) (l : ℕ) (ss : Stmts) (d : Drafted) → Keeps (statements_calls f ss) d (with_stmts f w l ss d)
  stmts_keep f w l no_stmts d = keeps_same
  stmts_keep f w l (and_stmts a ss) d = keeps_then (stmt_keeps f w l a d) (stmts_keep f w (case_behind l a) ss (with_stmt f w l a d))

pub statements_keep_the_stack : StatementsKeepTheStack
statements_keep_the_stack f w l s d start values calls h = (stmt_keeps f w l s d).keeps start values calls h
