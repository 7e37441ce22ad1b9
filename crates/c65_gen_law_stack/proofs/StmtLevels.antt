-- The labels in a statement's lines, and what waits there.
use Rattle.std.proofs.Common.{◌≡◌, ℕ, zero, suc, ◌+◌, ◌%◌, ◌==◌, ◌≤◌, ◌⊎◌, inl, inr, Bool, true, false, ℤ, List, [], ◌∷◌, ◌++◌, length, refl, sym, ◌∙◌, ap, subst, arith}
use Rattle.std.specs.Prelude.{if◌then◌else◌, Contains}
use Rattle.std.specs.List.{list_all}
use Rattle.std.proofs.lemmas.Bool.{eqb-true}
use Rattle.c65_csem.specs.Trees.{Typed, MaybeTyped, absent, present, Stmt, empty, eval, set_part, clear, block, if_stmt, while, do_while, for_loop, switch, case, default, label, goto, break, continue, return, Stmts, no_stmts, and_stmts, UnitTy}
use Rattle.c65_csem.specs.Places.{is_tag}
use Rattle.c65_csem.specs.Statements.{cases_of, defaults_of, Context, looping, switching, IsStmt, AreStmts}
use Rattle.c65_mach.specs.declared.rows.Op.TheVariants.{Jmp, Sta, Stx}
use Rattle.c65_mach.specs.declared.rows.Mode.TheVariants.{Absolute}
use Rattle.c65_code.specs.declared.line.Line.{Line}
use Rattle.c65_code.specs.declared.line.Line.TheVariants.{Label}
use Rattle.c65_code.specs.declared.routine.Width.{Width}
use Rattle.c65_code.specs.Segments.{Drafted}
use Rattle.c65_genframe.specs.Frames.{Framed, type_bytes}
use Rattle.c65_genwide.specs.Lines.{with_lines}
use Rattle.c65_genwide.specs.Wide.{width_of}
use Rattle.c65_genload.specs.Conversions.{size_of}
use Rattle.c65_genload.specs.declared.places.Access.TheVariants.{Whole}
use Rattle.c65_genexpr.specs.Types.{kind_in, bare}
use Rattle.c65_genexpr.specs.declared.wanted.Wanted.TheVariants.{Value, Test}
use Rattle.c65_genexpr.specs.Code.{expr_code}
use Rattle.c65_genentry.specs.Drafts.{with_labels}
use Rattle.c65_genentry.specs.Words.{ptr1, ptr2, zero_page, jump, with_code}
use Rattle.c65_genentry.specs.Bytes.{block_labels}
use Rattle.c65_genentry.specs.Bytes as blocks
use Rattle.c65_genentry.specs.Pointers as pointers
use Rattle.c65_genentry.specs.Choice.{choice_code}
use Rattle.c65_genstmt.specs.declared.jumps.Ways.{Ways}
use Rattle.c65_genstmt.specs.declared.objects.Spot.{Spot}
use Rattle.c65_genstmt.specs.declared.objects.Spot.TheVariants.{Bank, Soft, Data}
use Rattle.c65_geneffect.specs.Effects.{effect_code}
use Rattle.c65_genstmt.specs.Jumps.{following, with_value, with_effect, with_test}
use Rattle.c65_genstmt.specs.Objects.{spot_of, object_bytes, point_code, stored_code, with_copied, with_kept, with_zeros}
use Rattle.c65_genstmt.specs.Cases.{has_default}
use Rattle.c65_genstmt.specs.Stmts.{case_behind, with_label, with_jump, two_given, three_given, with_maybe, with_effects, with_guard, ways, default_way, with_stmt, with_stmts, with_last, with_lasts, is_empty, with_way, with_cases}
use Rattle.c65_gen_law_lines.specs.Stack.{calls_of, maybe_calls, statement_calls, statements_calls}
use Rattle.c65_gen_law_lines.proofs.Made.{is_plain}
use Rattle.c65_gen_law_lines.proofs.Flat.{point_flat, stored_flat, bank_clear_flat}
use Rattle.c65_gen_law_lines.proofs.Puts.{one, one_same}
use Rattle.c65_gen_law_lines.proofs.Others.{names, others, others_in, laid, others_are, default_counts, some_default}
use Rattle.c65_gen_law_lines.proofs.Leaves.{Still}
use Rattle.c65_gen_law_lines.proofs.StackLaws.{nothing_more}
use Rattle.c65_gen_law_stack.proofs.Levels.{Level, Nowhere, level_then, level_end, level_piece, level_none, level_label, level_leads, Closed}
use Rattle.c65_gen_law_stack.proofs.ExprLevels.{expr_level, value_level}
use Rattle.c65_gen_law_stack.proofs.EffectLevels.{effect_level}
use Rattle.c65_gen_law_stack.proofs.BlockLevels.{clear_level, copy_level, point_still, stored_still, bank_clear_still, choice_level}

-- labels that m counts, where nothing waits; and labels of X
abbrev pub Counted : (ℕ → ℕ) → ℕ → List ℕ → Type 0
Counted m l h = (1 ≤ m l) × (h ≡ [])

abbrev pub Bare : (ℕ → Type 0) → ℕ → List ℕ → Type 0
Bare X l h = X l × (h ≡ [])

-- The draft e comes from d by lines with these calls, before and behind which nothing waits: the labels that m counts stand there where
-- nothing waits, and branches lead to labels that stand there where the same values wait, or elsewhere where X says and nothing waits.
pub record Grows (m : ℕ → ℕ) (X : ℕ → Type 0) (cs : List (List ℕ)) (d e : Drafted) : Type 0 where
  pub added : List Line
  pub lines : e.lines ≡ d.lines ++ added
  pub level : Level (Counted m) (Bare X) cs [] added []

abbrev none : ℕ → ℕ
none l = 0

abbrev sum : (ℕ → ℕ) → (ℕ → ℕ) → ℕ → ℕ
sum m n l = m l + n l

pub append_lines : (xs ys zs : List Line) → (xs ++ ys) ++ zs ≡ xs ++ (ys ++ zs)
append_lines [] ys zs = refl
append_lines (x ∷ xs) ys zs = ap (λ l. x ∷ l) (append_lines xs ys zs)

one_of_two : (a b : ℕ) → 1 ≤ a + b → (1 ≤ a) ⊎ (1 ≤ b)
one_of_two zero b h = inr (omega (arith, h))
one_of_two (suc a) b h = inl (omega arith)

pub grows_then : {m n : ℕ → ℕ} {X : ℕ → Type 0} {cs ds : List (List ℕ)} {d e g : Drafted} → Grows m X cs d e → Grows n X ds e g → Grows (sum m n) X (cs ++ ds) d g
grows_then {m = m} {n = n} {d = d} p q = record {
  added = p.added ++ q.added;
  lines = q.lines ∙ (ap (λ l. l ++ q.added) p.lines ∙ append_lines d.lines p.added q.added);
  level = level_end (level_then p.level q.level) (λ l h z. elim (one_of_two (m l) (n l) z.0) [ inl a ↦ inl (a, z.1) | inr b ↦ inr (b, z.1) ]) (λ l h z. inr z);
}

pub grows_end : {m n : ℕ → ℕ} {X Y : ℕ → Type 0} {cs : List (List ℕ)} {d e : Drafted} → Grows m X cs d e → ((l : ℕ) → 1 ≤ n l → 1 ≤ m l) → ((l : ℕ) → X l → (1 ≤ m l) ⊎ Y l) → Grows n Y cs d e
grows_end p fewer closes = record {
  added = p.added;
  lines = p.lines;
  level = level_end p.level (λ l h z. (fewer l z.0, z.1)) (λ l h z. elim (closes l z.0) [ inl a ↦ inl (a, z.1) | inr y ↦ inr (y, z.1) ]);
}

grows_open : {m : ℕ → ℕ} {X Y : ℕ → Type 0} {cs : List (List ℕ)} {d e : Drafted} → ((l : ℕ) → X l → Y l) → Grows m X cs d e → Grows m Y cs d e
grows_open f p = grows_end p (λ l z. z) (λ l x. inr (f l x))

grows_as : {m : ℕ → ℕ} {X : ℕ → Type 0} {cs ds : List (List ℕ)} {d e : Drafted} → cs ≡ ds → Grows m X cs d e → Grows m X ds d e
grows_as {m = m} {X = X} {d = d} {e = e} same p = subst (λ (x : List (List ℕ)). Grows m X x d e) same p

-- the same, where the second draft has no calls
pub grows_behind : {m n : ℕ → ℕ} {X : ℕ → Type 0} {cs : List (List ℕ)} {d e g : Drafted} → Grows m X cs d e → Grows n X [] e g → Grows (sum m n) X cs d g
grows_behind {cs = cs} p q = grows_as (nothing_more cs) (grows_then p q)

-- labels that are given change no lines
grows_given : {m : ℕ → ℕ} {X : ℕ → Type 0} {cs : List (List ℕ)} {d e g : Drafted} → d.lines ≡ e.lines → Grows m X cs e g → Grows m X cs d g
grows_given same p = record { added = p.added; lines = p.lines ∙ ap (λ l. l ++ p.added) (sym same); level = p.level }

no_more : (xs : List Line) → xs ≡ xs ++ []
no_more [] = refl
no_more (x ∷ xs) = ap (λ l. x ∷ l) (no_more xs)

-- ---- steps

closed_level : {X : ℕ → Type 0} {cs : List (List ℕ)} {a : List Line} → Closed cs [] a [] → Level (Counted none) (Bare X) cs [] a []
closed_level p = level_end p (λ l h z. absurd (omega (arith, z.0))) (λ l h x. absurd x)

pub grows_same : {X : ℕ → Type 0} (d : Drafted) → Grows none X [] d d
grows_same d = record { added = []; lines = no_more d.lines; level = closed_level level_none }

pub grows_lines : {X : ℕ → Type 0} (d : Drafted) (a : List Line) → Still a → list_all is_plain a ≡ true → Grows none X [] d (with_lines d a)
grows_lines d a still plain = record { added = a; lines = refl; level = closed_level (level_piece (still []) plain) }

grows_code : {X : ℕ → Type 0} (n : ℕ) (d : Drafted) (a : List Line) → Closed [] [] a [] → Grows none X [] d (with_code n a d)
grows_code n d a closed = record { added = a; lines = refl; level = closed_level closed }

grows_value : {X : ℕ → Type 0} (f : Framed) (e : Typed) (d : Drafted) → Grows none X (calls_of f e) d (with_value f e d)
grows_value f e d = record { added = expr_code f 0 d.labels Value e; lines = refl; level = closed_level (value_level f 0 d.labels e []) }

grows_effect : {X : ℕ → Type 0} (f : Framed) (e : Typed) (d : Drafted) → Grows none X (calls_of f e) d (with_effect f e d)
grows_effect f e d = record { added = effect_code f 0 d.labels e; lines = refl; level = closed_level (effect_level f 0 d.labels e []) }

same_label : (k l : ℕ) → 1 ≤ one k l → l ≡ k
same_label k l h = by (k == l) refl h
  where
    by : (b : Bool) → (k == l) ≡ b → 1 ≤ (if b then 1 else 0) → l ≡ k
    by true e h = sym (eqb-true k l e)
    by false e h = absurd (omega (arith, h))

pub grows_label : {X : ℕ → Type 0} (k : ℕ) (d : Drafted) → Grows (one k) X [] d (with_label k d)
grows_label k d = record { added = Label k ∷ []; lines = refl; level = level_end (level_label {X = Nowhere} k []) (λ l h z. (same_label k l z.0, z.1)) (λ l h x. absurd x) }

-- to one label
abbrev To_label : ℕ → ℕ → Type 0
To_label k l = l ≡ k

grows_jump : (k : ℕ) (d : Drafted) → Grows none (To_label k) [] d (with_jump k d)
grows_jump k d = record { added = jump Jmp k ∷ []; lines = refl; level = level_end (level_leads Jmp Absolute k []) (λ l h z. absurd (omega (arith, z.0))) (λ l h z. inr z) }

-- or none, where nothing stands between
grows_way : (at : Bool) (k : ℕ) (d : Drafted) → Grows none (To_label k) [] d (with_way at k d)
grows_way true k d = grows_same d
grows_way false k d = grows_jump k d

none_left : {X : ℕ → Type 0} {m : ℕ → ℕ} {cs : List (List ℕ)} {d e : Drafted} → Grows m X cs d e → Grows none X cs d e
none_left p = grows_end p (λ l z. absurd (omega (arith, z))) (λ l x. inr x)

grows_test : (f : Framed) (to : ℕ) (s : Bool) (e : Typed) (d : Drafted) → Grows none (To_label to) (calls_of f e) d (with_test f to s e d)
grows_test f to s e d = record {
  added = expr_code f 0 d.labels (Test to s) e;
  lines = refl;
  level = level_end (expr_level f 0 d.labels (Test to s) e []) (λ l h z. absurd (omega (arith, z.0))) (λ l h z. inr z);
}

-- ---- objects

grows_copied : {X : ℕ → Type 0} (spot : Spot) (bytes : ℕ) (d : Drafted) → Grows none X [] d (with_copied spot bytes d)
grows_copied spot bytes d =
    let a : Drafted = with_lines d (zero_page Sta ptr1 ∷ zero_page Stx (ptr1 + 1) ∷ []) in
    let b : Drafted = with_lines a (point_code ptr2 spot) in
    none_left (grows_then (grows_lines d (zero_page Sta ptr1 ∷ zero_page Stx (ptr1 + 1) ∷ []) (λ v. record { to = λ calls. refl }) refl) (grows_then (grows_lines a (point_code ptr2 spot) (point_still ptr2 spot) (point_flat ptr2 spot).plain) (grows_code (block_labels (bytes % 65536)) b (blocks.copy_code (bytes % 65536) d.labels) (copy_level (bytes % 65536) d.labels []))))

grows_kept : {X : ℕ → Type 0} (tagged : Bool) (f : Framed) (spot : Spot) (e : Typed) (d : Drafted) → Grows none X [] d (with_kept tagged f spot e d)
grows_kept true f spot e d = grows_copied spot (type_bytes f (bare e)) d
grows_kept false f spot e d = grows_lines d (stored_code spot (Whole (kind_in e)) (size_of (kind_in e))) (stored_still spot (Whole (kind_in e)) (size_of (kind_in e))) (stored_flat spot (Whole (kind_in e)) (size_of (kind_in e))).plain

grows_cleared : {X : ℕ → Type 0} (pointer : List Line) (bytes : ℕ) (d : Drafted) → Still pointer → list_all is_plain pointer ≡ true → Grows none X [] d (with_code (block_labels bytes) (blocks.clear_code bytes d.labels) (with_lines d pointer))
grows_cleared pointer bytes d still plain = none_left (grows_then (grows_lines d pointer still plain) (grows_code (block_labels bytes) (with_lines d pointer) (blocks.clear_code bytes d.labels) (clear_level bytes d.labels [])))

grows_zeros : {X : ℕ → Type 0} (spot : Spot) (bytes : ℕ) (d : Drafted) → Grows none X [] d (with_zeros spot bytes d)
grows_zeros (Bank bank) bytes d = grows_lines d (pointers.clear_code bank bytes) (bank_clear_still bank bytes) (bank_clear_flat bank bytes).plain
grows_zeros (Soft at) bytes d = grows_cleared (pointers.near_code ptr1 at) (bytes % 65536) d (point_still ptr1 (Soft at)) (point_flat ptr1 (Soft at)).plain
grows_zeros (Data sym at) bytes d = grows_cleared (pointers.symbol_code ptr1 sym at) (bytes % 65536) d (point_still ptr1 (Data sym at)) (point_flat ptr1 (Data sym at)).plain

-- ---- the choice of a case

-- the labels of the cases, and that to which it goes where there is none
abbrev Chosen : ℕ → ℕ → ℕ → ℕ → Type 0
Chosen other at n l = (l ≡ other) ⊎ (1 ≤ laid at n l)

grows_choice : (w : Width) (other at : ℕ) (zs : List ℤ) (d : Drafted) → Grows none (Chosen other at (length zs)) [] d (with_cases w other at zs d)
grows_choice w other at zs d = record { added = choice_code w other at d.labels zs; lines = refl; level = level_end (choice_level w other at d.labels zs) (λ l h z. absurd (omega (arith, z.0))) (λ l h z. inr (elim z [ inl p ↦ (inl p.0, p.1) | inr q ↦ (inr q.0, q.1) ])) }

-- ---- statements

grows_maybe : {X : ℕ → Type 0} (f : Framed) (e : MaybeTyped) (d : Drafted) → Grows none X (maybe_calls f e) d (with_maybe f e d)
grows_maybe f absent d = grows_same d
grows_maybe f (present e) d = grows_value f e d

grows_effects : {X : ℕ → Type 0} (f : Framed) (e : MaybeTyped) (d : Drafted) → Grows none X (maybe_calls f e) d (with_effects f e d)
grows_effects f absent d = grows_same d
grows_effects f (present e) d = grows_effect f e d

grows_guard : (f : Framed) (to : ℕ) (e : MaybeTyped) (d : Drafted) → Grows none (To_label to) (maybe_calls f e) d (with_guard f to e d)
grows_guard f to absent d = grows_same d
grows_guard f to (present e) d = grows_test f to false e d

-- the labels to which a statement may lead: where its jumps go, the end of the function, and labels of the function
pub data Exits (w : Ways) (labels : List ℕ) (l : ℕ) : Type 0 where
  to_behind : l ≡ w.behind → Exits w labels l
  to_onward : l ≡ w.onward → Exits w labels l
  to_end : l ≡ 0 → Exits w labels l
  to_label : (n : ℕ) → Contains labels n → l ≡ following n → Exits w labels l

-- or two labels of its own, or three
abbrev Two : ℕ → ℕ → (ℕ → Type 0) → ℕ → Type 0
Two j k X l = (l ≡ j) ⊎ ((l ≡ k) ⊎ X l)

abbrev Three : ℕ → ℕ → ℕ → (ℕ → Type 0) → ℕ → Type 0
Three i j k X l = (l ≡ i) ⊎ Two j k X l

through : (w : Ways) (labels : List ℕ) (behind onward other : ℕ) (l : ℕ) → Exits (ways behind onward other) labels l → Two behind onward (Exits w labels) l
through w labels behind onward other l (to_behind e) = inl e
through w labels behind onward other l (to_onward e) = inr (inl e)
through w labels behind onward other l (to_end e) = inr (inr (to_end e))
through w labels behind onward other l (to_label n c e) = inr (inr (to_label n c e))

one_here : (k l : ℕ) → l ≡ k → 1 ≤ one k l
one_here k l e = subst (λ (x : ℕ). 1 ≤ one x l) e (omega (arith, one_same l))

put_one : (m : ℕ → ℕ) (k : ℕ) → 1 ≤ m k → (l : ℕ) → l ≡ k → 1 ≤ m l
put_one m k h l e = subst (λ (x : ℕ). 1 ≤ m x) (sym e) h

-- two labels of its own stand there, and three
close_two : {m n : ℕ → ℕ} {X : ℕ → Type 0} {cs : List (List ℕ)} {d e : Drafted} (j k : ℕ) → 1 ≤ m j → 1 ≤ m k → ((l : ℕ) → 1 ≤ n l → 1 ≤ m l) → Grows m (Two j k X) cs d e → Grows n X cs d e
close_two {m = m} {X = X} j k hj hk fewer p = grows_end p fewer by
  where
    by : (l : ℕ) → Two j k X l → (1 ≤ m l) ⊎ X l
    by l (inl e) = inl (put_one m j hj l e)
    by l (inr (inl e)) = inl (put_one m k hk l e)
    by l (inr (inr x)) = inr x

close_three : {m n : ℕ → ℕ} {X : ℕ → Type 0} {cs : List (List ℕ)} {d e : Drafted} (i j k : ℕ) → 1 ≤ m i → 1 ≤ m j → 1 ≤ m k → ((l : ℕ) → 1 ≤ n l → 1 ≤ m l) → Grows m (Three i j k X) cs d e → Grows n X cs d e
close_three {m = m} {X = X} i j k hi hj hk fewer p = grows_end p fewer by
  where
    by : (l : ℕ) → Three i j k X l → (1 ≤ m l) ⊎ X l
    by l (inl e) = inl (put_one m i hi l e)
    by l (inr (inl e)) = inl (put_one m j hj l e)
    by l (inr (inr (inl e))) = inl (put_one m k hk l e)
    by l (inr (inr (inr x))) = inr x

-- what the head and the body of a switch may lead to: its end, its default where it has one, its cases
abbrev Switched : ℕ → Stmt → (ℕ → Type 0) → ℕ → Type 0
Switched end a X l = (l ≡ end) ⊎ (((1 ≤ defaults_of a) × (l ≡ end + 1)) ⊎ ((1 ≤ laid (end + 1 + 1) (length (cases_of a)) l) ⊎ X l))

default_out : (a : Stmt) (end : ℕ) (X : ℕ → Type 0) (l : ℕ) → l ≡ default_way a end → Switched end a X l
default_out a end X l e = by (has_default a) refl e
  where
    by : (b : Bool) → has_default a ≡ b → l ≡ (if b then end + 1 else end) → Switched end a X l
    by true h e = inr (inl (default_counts a h, e))
    by false h e = inl e

body_out : (a : Stmt) (w : Ways) (labels : List ℕ) (end : ℕ) (l : ℕ) → Exits (ways end w.onward (end + 1)) labels l → Switched end a (Exits w labels) l
body_out a w labels end l (to_behind e) = inl e
body_out a w labels end l (to_onward e) = inr (inr (inr (to_onward e)))
body_out a w labels end l (to_end e) = inr (inr (inr (to_end e)))
body_out a w labels end l (to_label n c e) = inr (inr (inr (to_label n c e)))

close_switch : {m : ℕ → ℕ} {X : ℕ → Type 0} {cs : List (List ℕ)} {d e : Drafted} (end : ℕ) (a : Stmt) → ((l : ℕ) → others (end + 1) (end + 1 + 1) a l + one end l ≤ m l) → Grows m (Switched end a X) cs d e → Grows (λ l. names l a) X cs d e
close_switch {m = m} {X = X} end a some p = grows_end p (λ l h. omega (arith, some l, others_are (end + 1) (end + 1 + 1) a l, h)) by
  where
    by : (l : ℕ) → Switched end a X l → (1 ≤ m l) ⊎ X l
    by l (inl e) = inl (omega (arith, some l, one_here end l e))
    by l (inr (inl e)) = inl (put_one m (end + 1) (omega (arith, some (end + 1), others_are (end + 1) (end + 1 + 1) a (end + 1), some_default (defaults_of a) (end + 1) e.0)) l e.1)
    by l (inr (inr (inl h))) = inl (omega (arith, some l, others_are (end + 1) (end + 1 + 1) a l, h))
    by l (inr (inr (inr x))) = inr x

first_of_two : (X : ℕ → Type 0) (j k : ℕ) (l : ℕ) → To_label j l → Two j k X l
first_of_two X j k l e = inl e

second_of_two : (X : ℕ → Type 0) (j k : ℕ) (l : ℕ) → To_label k l → Two j k X l
second_of_two X j k l e = inr (inl e)

-- the same ways, in the other order
turned : (X : ℕ → Type 0) (j k : ℕ) (l : ℕ) → Two k j X l → Two j k X l
turned X j k l (inl e) = inr (inl e)
turned X j k l (inr (inl e)) = inl e
turned X j k l (inr (inr x)) = inr (inr x)

mutual
  pub stmt_grows : (u : UnitTy) (c : Context) (f : Framed) (w : Ways) (l : ℕ) (s : Stmt) (d : Drafted) → IsStmt u c s → Grows (others w.other l s) (Exits w c.labels) (statement_calls f s) d (with_stmt f w l s d)
  stmt_grows u c f w l empty d h = grows_same d
  stmt_grows u c f w l (eval e) d h = grows_effect f e d
  stmt_grows u c f w l (set_part i o e) d h = none_left (grows_behind (grows_value f e d) (grows_kept (is_tag (bare e)) f (spot_of f i o) e (with_value f e d)))
  stmt_grows u c f w l (clear i) d h = grows_zeros (spot_of f i 0) (object_bytes f i) d
  stmt_grows u c f w l (block os ss) d h = stmts_grow u c f w l ss d h.1
  stmt_grows u c f w l (if_stmt e a b) d h =
      let m1 : Drafted = with_test f d.labels false e (two_given d) in
      let m2 : Drafted = with_stmt f w l a m1 in
      let m3 : Drafted = with_way (is_empty b) (d.labels + 1) m2 in
      let m4 : Drafted = with_label d.labels m3 in
      let m5 : Drafted = with_stmt f w (case_behind l a) b m4 in
      let X : ℕ → Type 0 = Two d.labels (d.labels + 1) (Exits w c.labels) in
      let test : Grows none X (calls_of f e) (two_given d) m1 = grows_open (first_of_two (Exits w c.labels) d.labels (d.labels + 1)) (grows_test f d.labels false e (two_given d)) in
      let first : Grows (others w.other l a) X (statement_calls f a) m1 m2 = grows_open (λ x z. inr (inr z)) (stmt_grows u c f w l a m1 h.1) in
      let over : Grows none X [] m2 m3 = grows_open (second_of_two (Exits w c.labels) d.labels (d.labels + 1)) (grows_way (is_empty b) (d.labels + 1) m2) in
      let second : Grows (others w.other (case_behind l a) b) X (statement_calls f b) m4 m5 = grows_open (λ x z. inr (inr z)) (stmt_grows u c f w (case_behind l a) b m4 h.2) in
      grows_given {e = two_given d} refl (close_two d.labels (d.labels + 1) (omega (arith, one_same d.labels)) (omega (arith, one_same (d.labels + 1))) (λ x z. omega (arith, z))
      (grows_then test (grows_then first (grows_then over (grows_then (grows_label d.labels m3) (grows_behind second (grows_label (d.labels + 1) m5)))))))
  stmt_grows u c f w l (while e a) d h =
      let m1 : Drafted = with_label d.labels (two_given d) in
      let m2 : Drafted = with_test f (d.labels + 1) false e m1 in
      let inner : Ways = ways (d.labels + 1) d.labels w.other in
      let m3 : Drafted = with_stmt f inner l a m2 in
      let m4 : Drafted = with_jump d.labels m3 in
      let X : ℕ → Type 0 = Two d.labels (d.labels + 1) (Exits w c.labels) in
      let test : Grows none X (calls_of f e) m1 m2 = grows_open (second_of_two (Exits w c.labels) d.labels (d.labels + 1)) (grows_test f (d.labels + 1) false e m1) in
      let body : Grows (others w.other l a) X (statement_calls f a) m2 m3 = grows_open (λ x z. turned (Exits w c.labels) d.labels (d.labels + 1) x (through w c.labels (d.labels + 1) d.labels w.other x z)) (stmt_grows u (looping c) f inner l a m2 h.1) in
      let over : Grows none X [] m3 m4 = grows_open (first_of_two (Exits w c.labels) d.labels (d.labels + 1)) (grows_jump d.labels m3) in
      grows_given {e = two_given d} refl (close_two d.labels (d.labels + 1) (omega (arith, one_same d.labels)) (omega (arith, one_same (d.labels + 1))) (λ x z. omega (arith, z))
      (grows_then (grows_label d.labels (two_given d)) (grows_then test (grows_behind (grows_behind body over) (grows_label (d.labels + 1) m4)))))
  stmt_grows u c f w l (do_while a e) d h =
      let m1 : Drafted = with_label d.labels (three_given d) in
      let inner : Ways = ways (d.labels + 1 + 1) (d.labels + 1) w.other in
      let m2 : Drafted = with_stmt f inner l a m1 in
      let m3 : Drafted = with_label (d.labels + 1) m2 in
      let m4 : Drafted = with_test f d.labels true e m3 in
      let X : ℕ → Type 0 = Three d.labels (d.labels + 1) (d.labels + 1 + 1) (Exits w c.labels) in
      let body : Grows (others w.other l a) X (statement_calls f a) m1 m2 = grows_open (λ x z. inr (turned (Exits w c.labels) (d.labels + 1) (d.labels + 1 + 1) x (through w c.labels (d.labels + 1 + 1) (d.labels + 1) w.other x z))) (stmt_grows u (looping c) f inner l a m1 h.0) in
      let test : Grows none X (calls_of f e) m3 m4 = grows_open (λ x z. inl z) (grows_test f d.labels true e m3) in
      grows_given {e = three_given d} refl (close_three d.labels (d.labels + 1) (d.labels + 1 + 1) (omega (arith, one_same d.labels)) (omega (arith, one_same (d.labels + 1))) (omega (arith, one_same (d.labels + 1 + 1))) (λ x z. omega (arith, z))
      (grows_then (grows_label d.labels (three_given d)) (grows_then body (grows_then (grows_label (d.labels + 1) m2) (grows_behind test (grows_label (d.labels + 1 + 1) m4))))))
  stmt_grows u c f w l (for_loop i t n a) d h =
      let g : Drafted = with_effects f i d in
      let m1 : Drafted = with_label g.labels (three_given g) in
      let m2 : Drafted = with_guard f (g.labels + 1 + 1) t m1 in
      let inner : Ways = ways (g.labels + 1 + 1) (g.labels + 1) w.other in
      let m3 : Drafted = with_stmt f inner l a m2 in
      let m4 : Drafted = with_label (g.labels + 1) m3 in
      let m5 : Drafted = with_effects f n m4 in
      let m6 : Drafted = with_jump g.labels m5 in
      let X : ℕ → Type 0 = Three g.labels (g.labels + 1) (g.labels + 1 + 1) (Exits w c.labels) in
      let test : Grows none X (maybe_calls f t) m1 m2 = grows_open (λ x z. inr (inr (inl z))) (grows_guard f (g.labels + 1 + 1) t m1) in
      let body : Grows (others w.other l a) X (statement_calls f a) m2 m3 = grows_open (λ x z. inr (turned (Exits w c.labels) (g.labels + 1) (g.labels + 1 + 1) x (through w c.labels (g.labels + 1 + 1) (g.labels + 1) w.other x z))) (stmt_grows u (looping c) f inner l a m2 h.3) in
      let over : Grows none X [] m5 m6 = grows_open (λ x z. inl z) (grows_jump g.labels m5) in
      let loop : Grows (others w.other l a) (Exits w c.labels) (maybe_calls f t ++ (statement_calls f a ++ maybe_calls f n)) g (with_label (g.labels + 1 + 1) m6) =
      grows_given {e = three_given g} refl (close_three g.labels (g.labels + 1) (g.labels + 1 + 1) (omega (arith, one_same g.labels)) (omega (arith, one_same (g.labels + 1))) (omega (arith, one_same (g.labels + 1 + 1))) (λ x z. omega (arith, z))
      (grows_then (grows_label g.labels (three_given g)) (grows_then test (grows_then body (grows_then (grows_label (g.labels + 1) m3) (grows_behind (grows_behind (grows_effects f n m4) over) (grows_label (g.labels + 1 + 1) m6))))))) in
      grows_end (grows_then (grows_effects f i d) loop) (λ x z. omega (arith, z)) (λ x z. inr z)
  stmt_grows u c f w l (switch e a) d h =
      let cases : List ℤ = cases_of a in
      let m0 : Drafted = with_labels (length cases) (two_given d) in
      let g : Drafted = with_value f e m0 in
      let m1 : Drafted = with_cases (width_of (kind_in e)) (default_way a d.labels) (d.labels + 1 + 1) cases g in
      let m2 : Drafted = with_jump (default_way a d.labels) m1 in
      let inner : Ways = ways d.labels w.onward (d.labels + 1) in
      let m3 : Drafted = with_stmt f inner (d.labels + 1 + 1) a m2 in
      let X : ℕ → Type 0 = Switched d.labels a (Exits w c.labels) in
      let choice : Grows none X [] g m1 = grows_open (λ x z. elim z [ inl p ↦ default_out a d.labels (Exits w c.labels) x p | inr q ↦ inr (inr (inl q)) ]) (grows_choice (width_of (kind_in e)) (default_way a d.labels) (d.labels + 1 + 1) cases g) in
      let over : Grows none X [] m1 m2 = grows_open (λ x z. default_out a d.labels (Exits w c.labels) x z) (grows_jump (default_way a d.labels) m1) in
      let body : Grows (others (d.labels + 1) (d.labels + 1 + 1) a) X (statement_calls f a) m2 m3 = grows_open (λ x z. body_out a w c.labels d.labels x z) (stmt_grows u (switching h.0 c) f inner (d.labels + 1 + 1) a m2 h.2) in
      grows_given {e = m0} refl (close_switch d.labels a (λ x. omega arith) (grows_then (grows_value f e m0) (grows_then choice (grows_then over (grows_behind body (grows_label d.labels m3))))))
  stmt_grows u c f w l (case z a) d h = grows_then (grows_label l d) (stmt_grows u c f w (following l) a (with_label l d) h.1)
  stmt_grows u c f w l (default a) d h = grows_then (grows_label w.other d) (stmt_grows u c f w l a (with_label w.other d) h.1)
  stmt_grows u c f w l (label n a) d h = grows_then (grows_label (following n) d) (stmt_grows u c f w l a (with_label (following n) d) h)
  stmt_grows u c f w l (goto n) d h = grows_open (λ x z. to_label n h z) (grows_jump (following n) d)
  stmt_grows u c f w l break d h = grows_open (λ x z. to_behind z) (grows_jump w.behind d)
  stmt_grows u c f w l continue d h = grows_open (λ x z. to_onward z) (grows_jump w.onward d)
  stmt_grows u c f w l (return e) d h = none_left (grows_behind (grows_maybe f e d) (grows_open (λ x z. to_end z) (grows_jump 0 (with_maybe f e d))))

  pub stmts_grow : (u : UnitTy) (c : Context) (f : Framed) (w : Ways) (l : ℕ) (ss : Stmts) (d : Drafted) → AreStmts u c ss → Grows (others_in w.other l ss) (Exits w c.labels) (statements_calls f ss) d (with_stmts f w l ss d)
  stmts_grow u c f w l no_stmts d h = grows_same d
  stmts_grow u c f w l (and_stmts a ss) d h = grows_then (stmt_grows u c f w l a d h.0) (stmts_grow u c f w (case_behind l a) ss (with_stmt f w l a d) h.1)

-- ---- what stands last

mutual
  pub last_grows : (u : UnitTy) (c : Context) (f : Framed) (w : Ways) (l : ℕ) (s : Stmt) (d : Drafted) → IsStmt u c s → Grows (others w.other l s) (Exits w c.labels) (statement_calls f s) d (with_last f w l s d)
  last_grows u c f w l (block os ss) d h = lasts_grow u c f w l ss d h.1
  last_grows u c f w l (return e) d h = grows_maybe f e d
  last_grows u c f w l a d h = stmt_grows u c f w l a d h

  lasts_grow : (u : UnitTy) (c : Context) (f : Framed) (w : Ways) (l : ℕ) (ss : Stmts) (d : Drafted) → AreStmts u c ss → Grows (others_in w.other l ss) (Exits w c.labels) (statements_calls f ss) d (with_lasts f w l ss d)
  lasts_grow u c f w l no_stmts d h = grows_same d
  lasts_grow u c f w l (and_stmts a no_stmts) d h = grows_then (last_grows u c f w l a d h.0) (grows_same (with_last f w l a d))
  lasts_grow u c f w l (and_stmts a (and_stmts b ss)) d h = grows_then (stmt_grows u c f w l a d h.0) (lasts_grow u c f w (case_behind l a) (and_stmts b ss) (with_stmt f w l a d) h.1)
