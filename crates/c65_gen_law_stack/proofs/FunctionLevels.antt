-- The lines of expressions and functions are level.
use Rattle.std.proofs.Common.{◌≡◌, ℕ, zero, suc, ◌+◌, ◌<◌, ◌≤◌, ◌==◌, ◌||◌, ◌⊎◌, inl, inr, Bool, true, false, not, None, Some, List, [], ◌∷◌, ◌++◌, length, nat_eq, refl, sym, ◌∙◌, ap, subst, arith}
use Rattle.std.specs.Prelude.{◌&&◌, if◌then◌else◌, slice_index_or}
use Rattle.std.specs.List.{list_all}
use Rattle.std.proofs.lemmas.Bool.{cases_eq, and_parts, eq-eqb, eqb-true, ne_eqb}
use Rattle.c65_csem.specs.Trees.{Stmt, empty, eval, set_part, clear, block, if_stmt, while, do_while, for_loop, switch, case, default, label, goto, break, continue, return, Stmts, no_stmts, and_stmts, UnitTy, FuncTy}
use Rattle.c65_csem.specs.Statements.{labels_of, labels_in}
use Rattle.c65_csem.specs.Units.{context_of, IsBody}
use Rattle.c65_code.specs.declared.line.Line.{Line}
use Rattle.c65_code.specs.declared.line.Line.TheVariants.{Label, Do, Call}
use Rattle.c65_code.specs.declared.parts.RegSet.{RegSet}
use Rattle.c65_code.specs.Segments.{Drafted, is_among, is_distinct}
use Rattle.c65_code.specs.Segments as segments
use Rattle.c65_genframe.specs.Frames.{Framed}
use Rattle.c65_genwide.specs.Lines.{with_lines}
use Rattle.c65_genexpr.specs.declared.wanted.Wanted.TheVariants.{Value, Test}
use Rattle.c65_genexpr.specs.Uses.{uses}
use Rattle.c65_genexpr.specs.Code.{expr_code}
use Rattle.c65_genentry.specs.Drafts.{with_labels}
use Rattle.c65_genentry.specs.Entry.{entry_code}
use Rattle.c65_genentry.specs.Ends.{end_code}
use Rattle.c65_genstmt.specs.Jumps.{following}
use Rattle.c65_genstmt.specs.Cases.{room_of}
use Rattle.c65_genstmt.specs.Stmts.{with_label, ways, with_last, returns_last}
use Rattle.c65_genstmt.specs.Functions.{main_code, no_lines}
use Rattle.c65_gen_law_lines.specs.Labels.{times, is_within, among}
use Rattle.c65_gen_law_lines.specs.Stack.{waiting_by, calls_of, statement_calls}
use Rattle.c65_gen_law_lines.proofs.Made.{is_plain, times-append}
use Rattle.c65_gen_law_lines.proofs.ExprLaws.{expressions_own_their_labels}
use Rattle.c65_gen_law_lines.proofs.FunctionLaws.{functions_are_segments}
use Rattle.c65_gen_law_lines.proofs.Others.{names, names_in, others, others_are}
use Rattle.c65_gen_law_lines.proofs.Puts.{one, one_same}
use Rattle.c65_gen_law_lines.proofs.Leaves.{Still, leaves_none}
use Rattle.c65_gen_law_lines.proofs.StackLaws.{nothing_more}
use Rattle.c65_gen_law_stack.specs.Heights.{ExpressionsAreLevel, TestsAreLevel, FunctionsAreLevel}
use Rattle.c65_gen_law_stack.proofs.Levels.{level_end, level_behind, level_label, Closed, all_level, closed_lines}
use Rattle.c65_gen_law_stack.proofs.ExprLevels.{expr_level, value_level}
use Rattle.c65_gen_law_stack.proofs.StmtLevels.{Grows, grows_then, grows_behind, grows_end, grows_lines, grows_label, append_lines, Exits, to_behind, to_onward, to_end, to_label, last_grows}

-- ---- expressions

few_among : (lo n l : ℕ) → among lo n l ≤ 1
few_among lo n l = by (is_within lo n l)
  where
    by : (b : Bool) → (if b then 1 else 0) ≤ 1
    by true = omega arith
    by false = omega arith

pub expressions_are_level : ExpressionsAreLevel
expressions_are_level f pushed fresh e values calls =
    closed_lines calls (value_level f pushed fresh e values) (λ l. omega (arith, (expressions_own_their_labels f pushed fresh Value e).once l, few_among fresh (uses None e) l))

-- a label that stands behind lines with labels of their own
one_behind : (lo n to l : ℕ) → among lo n to ≡ 0 → among lo n l + one to l ≤ 1
one_behind lo n to l none = by (to == l) refl
  where
    by : (b : Bool) → (to == l) ≡ b → among lo n l + (if b then 1 else 0) ≤ 1
    by true e = let same : among lo n l ≡ among lo n to = ap (among lo n) (sym (eqb-true to l e)) in omega (arith, same, none)
    by false e = omega (arith, few_among lo n l)

pub tests_are_level : TestsAreLevel
tests_are_level f pushed fresh to s e values calls apart =
    let lines : List Line = expr_code f pushed fresh (Test to s) e in
    let level : Closed (calls_of f e) values (lines ++ Label to ∷ []) values = level_end (level_behind (expr_level f pushed fresh (Test to s) e values) (level_label to values)) (λ l h z. absurd z) (λ l h z. inl (inr z)) in
    closed_lines calls level (λ l. omega (arith, times-append l lines (Label to ∷ []), (expressions_own_their_labels f pushed fresh (Test to s) e).once l, one_behind fresh (uses (Some s) e) to l apart))

-- ---- labels of statements

-- how often a label is that of one of these statements' labels
abbrev stated : ℕ → List ℕ → ℕ
stated x [] = 0
stated x (n ∷ ns) = one (following n) x + stated x ns

stated_append : (x : ℕ) (ms ns : List ℕ) → stated x (ms ++ ns) ≡ stated x ms + stated x ns
stated_append x [] ns = omega arith
stated_append x (m ∷ ms) ns = omega (arith, stated_append x ms ns)

mutual
  names_stated : (x : ℕ) (s : Stmt) → names x s ≡ stated x (labels_of s)
  names_stated x (block os ss) = names_all_stated x ss
  names_stated x (if_stmt e a b) = omega (arith, names_stated x a, names_stated x b, stated_append x (labels_of a) (labels_of b))
  names_stated x (while e a) = names_stated x a
  names_stated x (do_while a e) = names_stated x a
  names_stated x (for_loop i c n a) = names_stated x a
  names_stated x (switch e a) = names_stated x a
  names_stated x (case z a) = names_stated x a
  names_stated x (default a) = names_stated x a
  names_stated x (label n a) = omega (arith, names_stated x a)
  names_stated x empty = refl
  names_stated x (eval e) = refl
  names_stated x (set_part i o e) = refl
  names_stated x (clear i) = refl
  names_stated x (goto n) = refl
  names_stated x break = refl
  names_stated x continue = refl
  names_stated x (return e) = refl

  names_all_stated : (x : ℕ) (ss : Stmts) → names_in x ss ≡ stated x (labels_in ss)
  names_all_stated x no_stmts = refl
  names_all_stated x (and_stmts a ss) = omega (arith, names_stated x a, names_all_stated x ss, stated_append x (labels_of a) (labels_in ss))

stated_some : (n k : ℕ) (ns : List ℕ) → k < length ns → slice_index_or ns k n ≡ n → 1 ≤ stated (following n) ns
stated_some n k [] lt e = absurd (omega (arith, lt))
stated_some n zero (m ∷ ns) lt e =
    let same : one (following m) (following n) ≡ 1 = ap (λ k. one (following k) (following n)) e ∙ one_same (following n) in
    omega (arith, same)
stated_some n (suc k) (m ∷ ns) lt e = omega (arith, stated_some n k ns (omega (arith, lt)) e)

-- each label of the body stands among its lines, and the label of the end does
exits_stand : (body : Stmt) (l : ℕ) → Exits (ways 0 0 0) (labels_of body) l → 1 ≤ others 0 0 body l + one 0 l
exits_stand body l (to_behind e) = subst (λ (x : ℕ). 1 ≤ others 0 0 body x + one 0 x) (sym e) (omega (arith, one_same 0))
exits_stand body l (to_onward e) = subst (λ (x : ℕ). 1 ≤ others 0 0 body x + one 0 x) (sym e) (omega (arith, one_same 0))
exits_stand body l (to_end e) = subst (λ (x : ℕ). 1 ≤ others 0 0 body x + one 0 x) (sym e) (omega (arith, one_same 0))
exits_stand body l (to_label n c e) =
    subst (λ (x : ℕ). 1 ≤ others 0 0 body x + one 0 x) (sym e) (omega (arith, others_are 0 0 body (following n), names_stated (following n) body, stated_some n c.0 (labels_of body) c.1 c.2))

-- ---- labels that differ stand once

if_most : (b : Bool) → (if b then 1 else 0) ≤ 1
if_most true = omega arith
if_most false = omega arith

neither : (a b : Bool) → (a || b) ≡ false → (a ≡ false) × (b ≡ false)
neither true b h = absurd cc
neither false b h = (refl, h)

not_there : (x : ℕ) (a : List Line) → is_among (segments.labels_of a) x ≡ false → times x a ≡ 0
not_there x [] h = refl
not_there x (Label k ∷ a) h =
    let parts = neither (nat_eq x k) (is_among (segments.labels_of a) x) h in
    let other : k ≡ x → ⊥ = λ e. let same : nat_eq x k ≡ true = eq-eqb x k (sym e) in let differ : nat_eq x k ≡ false = parts.0 in cc in
    let none : one k x ≡ 0 = ap (λ b. if b then 1 else 0) (ne_eqb k x other) in
    omega (arith, none, not_there x a parts.1)
not_there x (Do op mode operand ∷ a) h = not_there x a h
not_there x (Call callee ∷ a) h = not_there x a h

is_none : (b : Bool) → not b ≡ true → b ≡ false
is_none true h = absurd cc
is_none false h = refl

distinct_times : (a : List Line) (l : ℕ) → is_distinct (segments.labels_of a) ≡ true → times l a ≤ 1
distinct_times [] l h = omega arith
distinct_times (Label k ∷ a) l h =
    let parts = and_parts (not (is_among (segments.labels_of a) k)) (is_distinct (segments.labels_of a)) h in
    by parts.0 (distinct_times a l parts.1) (cases_eq k l)
  where
    by : not (is_among (segments.labels_of a) k) ≡ true → times l a ≤ 1 → (k ≡ l) ⊎ (k ≡ l → ⊥) → one k l + times l a ≤ 1
    by out later (inl e) =
        let none : times l a ≡ 0 = not_there l a (ap (is_among (segments.labels_of a)) (sym e) ∙ is_none (is_among (segments.labels_of a) k) out) in
        omega (arith, none, if_most (k == l))
    by out later (inr ne) = let none : one k l ≡ 0 = ap (λ b. if b then 1 else 0) (ne_eqb k l ne) in omega (arith, none, later)
distinct_times (Do op mode operand ∷ a) l h = distinct_times a l h
distinct_times (Call callee ∷ a) l h = distinct_times a l h

-- ---- functions

main_still : (is_main : Bool) → Still (main_code is_main)
main_still true v = record { to = λ calls. refl }
main_still false v = leaves_none

main_plain : (is_main : Bool) → list_all is_plain (main_code is_main) ≡ true
main_plain true = refl
main_plain false = refl

abbrev entered : Framed → Stmt → RegSet → Drafted
entered f body out = with_lines (with_labels (room_of body) (with_labels 1 (no_lines out))) (entry_code f)

abbrev run : Framed → Stmt → RegSet → Drafted
run f body out = with_last f (ways 0 0 0) 0 body (entered f body out)

abbrev ended : Framed → Bool → Stmt → RegSet → Drafted
ended f is_main body out = with_label 0 (with_lines (run f body out) (main_code (is_main && not (returns_last body))))

abbrev whole : Framed → Bool → Stmt → RegSet → Drafted
whole f is_main body out = with_lines (ended f is_main body out) (end_code f)

abbrev Shut : ℕ → Type 0
Shut l = ⊥

body_grows : (u : UnitTy) (g : FuncTy) (body : Stmt) (f : Framed) (is_main : Bool) (out : RegSet) → IsBody u g body → Grows (λ l. 0) Shut (statement_calls f body) (entered f body out) (ended f is_main body out)
body_grows u g body f is_main out well =
    let first : Bool = is_main && not (returns_last body) in
    let m : Drafted = with_lines (run f body out) (main_code first) in
    let behind : Grows (λ l. 0 + one 0 l) (Exits (ways 0 0 0) (labels_of body)) [] (run f body out) (ended f is_main body out) = grows_then (grows_lines (run f body out) (main_code first) (main_still first) (main_plain first)) (grows_label 0 m) in
    let all = grows_behind (last_grows u (context_of g body) f (ways 0 0 0) 0 body (entered f body out) well.typed) behind in
    grows_end all (λ l z. absurd (omega (arith, z))) (λ l x. inl (omega (arith, exits_stand body l x)))

pub functions_are_level : FunctionsAreLevel
functions_are_level u g body f is_main out well few =
    let grown : Grows (λ l. 0) Shut (statement_calls f body) (entered f body out) (ended f is_main body out) = body_grows u g body f is_main out well in
    let middle : List Line = grown.added in
    let lines : (whole f is_main body out).lines ≡ entry_code f ++ (middle ++ end_code f) = ap (λ l. l ++ end_code f) grown.lines ∙ append_lines (entry_code f) middle (end_code f) in
    let distinct : is_distinct (segments.labels_of (whole f is_main body out).lines) ≡ true = (functions_are_segments u g body f is_main out well few).labels in
    let once : (l : ℕ) → times l middle ≤ 1 = λ l.
    let most : times l (whole f is_main body out).lines ≤ 1 = distinct_times (whole f is_main body out).lines l distinct in
    let same : times l (whole f is_main body out).lines ≡ times l (entry_code f ++ (middle ++ end_code f)) = ap (times l) lines in
    omega (arith, most, same, times-append l (entry_code f) (middle ++ end_code f), times-append l middle (end_code f)) in
    let calls : statement_calls f body ≡ statement_calls f body ++ [] = sym (nothing_more (statement_calls f body)) in
    let to = grown.level.to (statement_calls f body) [] calls in
    (middle, lines, to, all_level (Some (waiting_by [] (statement_calls f body))) middle (waiting_by [] []) to (λ l h s. elim (grown.level.found (statement_calls f body) [] calls l h s) [ inl x ↦ x | inr y ↦ absurd y.0 ]) once)
