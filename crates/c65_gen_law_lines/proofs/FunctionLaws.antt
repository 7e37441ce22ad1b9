-- The lines of a function are a segment.
use Rattle.std.proofs.Common.{◌≡◌, ℕ, zero, suc, ◌+◌, ◌<◌, ◌≤◌, ◌||◌, ◌⊎◌, inl, inr, Bool, true, false, not, None, Some, List, [], ◌∷◌, ◌++◌, length, refl, sym, ◌∙◌, ap, slice_get, arith}
use Rattle.std.specs.Prelude.{◌&&◌, if◌then◌else◌, max, slice_index_or, nat_eq, IsSome, Contains}
use Rattle.std.proofs.lemmas.Bool.{cases_eq, and_from, eq-eqb, ne_eqb}
use Rattle.std.proofs.Math.Nat.{le-max_left, le-max_right}
use Rattle.std.proofs.lemmas.List.{length-append}
use Rattle.c65_csem.specs.Trees.{Stmt, empty, eval, set_part, clear, block, if_stmt, while, do_while, for_loop, switch, case, default, label, goto, break, continue, return, Stmts, no_stmts, and_stmts, UnitTy, FuncTy}
use Rattle.c65_csem.specs.Statements.{labels_of, labels_in, cases_of, cases_in, defaults_of, defaults_in, IsDistinct, Context, looping, IsStmt, AreStmts}
use Rattle.c65_csem.specs.Units.{context_of, IsBody}
use Rattle.c65_code.specs.declared.line.Line.{Line}
use Rattle.c65_code.specs.declared.line.Line.TheVariants.{Label, Do, Call}
use Rattle.c65_code.specs.declared.parts.RegSet.{RegSet}
use Rattle.c65_code.specs.Segments.{Drafted, IsSegment, is_among, is_distinct, is_closing, closed_by, is_closed, targets_of}
use Rattle.c65_code.specs.Segments as segments
use Rattle.c65_genframe.specs.Frames.{Framed}
use Rattle.c65_genwide.specs.Lines.{with_lines}
use Rattle.c65_genentry.specs.Drafts.{with_labels}
use Rattle.c65_genentry.specs.Entry.{entry_code}
use Rattle.c65_genentry.specs.Stack.{raise_code}
use Rattle.c65_genentry.specs.Ends.{restored_code, plain_end, variadic_end, end_code}
use Rattle.c65_genstmt.specs.Jumps.{following}
use Rattle.c65_genstmt.specs.Cases.{room_of, room_in}
use Rattle.c65_genstmt.specs.Stmts.{with_label, ways, with_last, returns_last}
use Rattle.c65_genstmt.specs.Functions.{main_code, no_lines}
use Rattle.c65_gen_law_lines.specs.Labels.{times, among}
use Rattle.c65_gen_law_lines.specs.Laws.{FunctionsAreSegments}
use Rattle.c65_gen_law_lines.proofs.Made.{all_fit, within, among_inside, or_left, or_right}
use Rattle.c65_gen_law_lines.proofs.Flat.{Flat, flat_none, entry_flat, end_flat}
use Rattle.c65_gen_law_lines.proofs.Puts.{one, below_next, below_more, at_most_one, one_same, one_other, Puts, puts_then, puts_end, puts_flat, puts_label}
use Rattle.c65_gen_law_lines.proofs.Others.{names, names_in, others, laid, times_one, others_are}
use Rattle.c65_gen_law_lines.proofs.StmtLaws.{Exits, last_puts}

-- ---- no case stands outside a switch

no_case : (c : Context) → c.in_switch ≡ None → IsSome c.in_switch → ⊥
no_case c e h = cc

mutual
  outside : (u : UnitTy) (c : Context) (s : Stmt) → c.in_switch ≡ None → IsStmt u c s → (length (cases_of s) ≡ 0) × (defaults_of s ≡ 0)
  outside u c (block os ss) e h = outside_all u c ss e h.1
  outside u c (if_stmt t a b) e h =
      let first : (length (cases_of a) ≡ 0) × (defaults_of a ≡ 0) = outside u c a e h.1 in
      let second : (length (cases_of b) ≡ 0) × (defaults_of b ≡ 0) = outside u c b e h.2 in
      (omega (arith, length-append (cases_of a) (cases_of b), first.0, second.0), omega (arith, first.1, second.1))
  outside u c (while t a) e h = outside u (looping c) a e h.1
  outside u c (do_while a t) e h = outside u (looping c) a e h.0
  outside u c (for_loop i t n a) e h = outside u (looping c) a e h.3
  outside u c (case z a) e h = let belongs = h.0.belongs in absurd cc
  outside u c (default a) e h = absurd (no_case c e h.0)
  outside u c (label n a) e h = outside u c a e h
  outside u c (switch t a) e h = (refl, refl)
  outside u c empty e h = (refl, refl)
  outside u c (eval t) e h = (refl, refl)
  outside u c (set_part i o t) e h = (refl, refl)
  outside u c (clear i) e h = (refl, refl)
  outside u c (goto n) e h = (refl, refl)
  outside u c break e h = (refl, refl)
  outside u c continue e h = (refl, refl)
  outside u c (return t) e h = (refl, refl)

  outside_all : (u : UnitTy) (c : Context) (ss : Stmts) → c.in_switch ≡ None → AreStmts u c ss → (length (cases_in ss) ≡ 0) × (defaults_in ss ≡ 0)
  outside_all u c no_stmts e h = (refl, refl)
  outside_all u c (and_stmts a ss) e h =
      let first : (length (cases_of a) ≡ 0) × (defaults_of a ≡ 0) = outside u c a e h.0 in
      let second : (length (cases_in ss) ≡ 0) × (defaults_in ss ≡ 0) = outside_all u c ss e h.1 in
      (omega (arith, length-append (cases_of a) (cases_in ss), first.0, second.0), omega (arith, first.1, second.1))

-- ---- the labels of statements

-- how often a label is that of one of these statements' labels
abbrev stated : ℕ → List ℕ → ℕ
stated x [] = 0
stated x (n ∷ ns) = one (following n) x + stated x ns

stated_append : (x : ℕ) (ms ns : List ℕ) → stated x (ms ++ ns) ≡ stated x ms + stated x ns
stated_append x [] ns = omega arith
stated_append x (m ∷ ms) ns = omega (arith, stated_append x ms ns)

mutual
  names_stated : (x : ℕ) (s : Stmt) → names x s ≡ stated x (labels_of s)
  names_stated x (block os ss) = names_all_stated x ss
  names_stated x (if_stmt e a b) = omega (arith, names_stated x a, names_stated x b, stated_append x (labels_of a) (labels_of b))
  names_stated x (while e a) = names_stated x a
  names_stated x (do_while a e) = names_stated x a
  names_stated x (for_loop i c n a) = names_stated x a
  names_stated x (switch e a) = names_stated x a
  names_stated x (case z a) = names_stated x a
  names_stated x (default a) = names_stated x a
  names_stated x (label n a) = omega (arith, names_stated x a)
  names_stated x empty = refl
  names_stated x (eval e) = refl
  names_stated x (set_part i o e) = refl
  names_stated x (clear i) = refl
  names_stated x (goto n) = refl
  names_stated x break = refl
  names_stated x continue = refl
  names_stated x (return e) = refl

  names_all_stated : (x : ℕ) (ss : Stmts) → names_in x ss ≡ stated x (labels_in ss)
  names_all_stated x no_stmts = refl
  names_all_stated x (and_stmts a ss) = omega (arith, names_stated x a, names_all_stated x ss, stated_append x (labels_of a) (labels_in ss))

-- all of these are below a number
abbrev AreBelow : ℕ → List ℕ → Type 0
AreBelow r [] = Unit {0}
AreBelow r (n ∷ ns) = (n < r) × AreBelow r ns

below_wider : (r q : ℕ) (ns : List ℕ) → r ≤ q → AreBelow r ns → AreBelow q ns
below_wider r q [] le h = tt
below_wider r q (n ∷ ns) le h = (omega (arith, le, h.0), below_wider r q ns le h.1)

below_append : (r : ℕ) (ms ns : List ℕ) → AreBelow r ms → AreBelow r ns → AreBelow r (ms ++ ns)
below_append r [] ns hm hn = hn
below_append r (m ∷ ms) ns hm hn = (hm.0, below_append r ms ns hm.1 hn)

both_below : (a b : ℕ) (ms ns : List ℕ) → AreBelow a ms → AreBelow b ns → AreBelow (max a b) (ms ++ ns)
both_below a b ms ns hm hn = below_append (max a b) ms ns (below_wider a (max a b) ms (le-max_left a b) hm) (below_wider b (max a b) ns (le-max_right a b) hn)

mutual
  labels_below : (s : Stmt) → AreBelow (room_of s) (labels_of s)
  labels_below (block os ss) = labels_all_below ss
  labels_below (if_stmt e a b) = both_below (room_of a) (room_of b) (labels_of a) (labels_of b) (labels_below a) (labels_below b)
  labels_below (while e a) = labels_below a
  labels_below (do_while a e) = labels_below a
  labels_below (for_loop i c n a) = labels_below a
  labels_below (switch e a) = labels_below a
  labels_below (case z a) = labels_below a
  labels_below (default a) = labels_below a
  labels_below (label n a) = (omega (arith, le-max_right (room_of a) (suc n)), below_wider (room_of a) (max (room_of a) (suc n)) (labels_of a) (le-max_left (room_of a) (suc n)) (labels_below a))
  labels_below empty = tt
  labels_below (eval e) = tt
  labels_below (set_part i o e) = tt
  labels_below (clear i) = tt
  labels_below (goto n) = tt
  labels_below break = tt
  labels_below continue = tt
  labels_below (return e) = tt

  labels_all_below : (ss : Stmts) → AreBelow (room_in ss) (labels_in ss)
  labels_all_below no_stmts = tt
  labels_all_below (and_stmts a ss) = both_below (room_of a) (room_in ss) (labels_of a) (labels_in ss) (labels_below a) (labels_all_below ss)

rest_distinct : (n : ℕ) (ns : List ℕ) → IsDistinct (n ∷ ns) → IsDistinct ns
rest_distinct n ns h = record { once = λ i j x a b. let e : suc i ≡ suc j = h.once (suc i) (suc j) x a b in omega (arith, e) }

-- a label that is stated stands at some place
stated_at : (x r : ℕ) (ns : List ℕ) → AreBelow r ns → r + 1 ≤ 4294967296 → 1 ≤ stated x ns → (j : ℕ) × (m : ℕ) × (slice_get ns j ≡ Some m) × (m + 1 ≡ x)
stated_at x r [] small room h = absurd (omega (arith, h))
stated_at x r (n ∷ ns) small room h = go (λ more. stated_at x r ns small.1 room more) (cases_eq (following n) x)
  where
    go : (1 ≤ stated x ns → (j : ℕ) × (m : ℕ) × (slice_get ns j ≡ Some m) × (m + 1 ≡ x)) → (following n ≡ x) ⊎ (following n ≡ x → ⊥) → (j : ℕ) × (m : ℕ) × (slice_get (n ∷ ns) j ≡ Some m) × (m + 1 ≡ x)
    go later (inl e) = (zero, n, refl, omega (arith, e, small.0, room))
    go later (inr ne) =
        let none : one (following n) x ≡ 0 = one_other (following n) x ne in
        let rest : (j : ℕ) × (m : ℕ) × (slice_get ns j ≡ Some m) × (m + 1 ≡ x) = later (omega (arith, h, none)) in
        (suc rest.0, rest.1, rest.2, rest.3)

none_if : (n : ℕ) → (1 ≤ n → ⊥) → n ≡ 0
none_if zero h = refl
none_if (suc n) h = absurd (h (omega arith))

stated_once : (x r : ℕ) (ns : List ℕ) → AreBelow r ns → r + 1 ≤ 4294967296 → IsDistinct ns → stated x ns ≤ among 1 r x
stated_once x r [] small room distinct = omega arith
stated_once x r (n ∷ ns) small room distinct = go (stated_once x r ns small.1 room (rest_distinct n ns distinct)) (cases_eq (following n) x)
  where
    go : stated x ns ≤ among 1 r x → (following n ≡ x) ⊎ (following n ≡ x → ⊥) → one (following n) x + stated x ns ≤ among 1 r x
    go later (inl e) =
        let here : n + 1 ≡ x = omega (arith, e, small.0, room) in
        let inside : among 1 r x ≡ 1 = among_inside 1 r x (within 1 r x (omega (arith, here)) (omega (arith, here, small.0))) in
        let single : one (following n) x ≡ 1 = ap (λ b. if b then 1 else 0) (eq-eqb (following n) x e) in
        let no_more : 1 ≤ stated x ns → ⊥ = λ more.
        let again : (j : ℕ) × (m : ℕ) × (slice_get ns j ≡ Some m) × (m + 1 ≡ x) = stated_at x r ns small.1 room more in
        let same : again.1 ≡ n = omega (arith, again.3, here) in
        let twice : zero ≡ suc again.0 = distinct.once zero (suc again.0) n refl (again.2 ∙ ap (λ k. Some k) same) in
        omega (arith, twice) in
        omega (arith, inside, single, none_if (stated x ns) no_more)
    go later (inr ne) =
        let none : one (following n) x ≡ 0 = one_other (following n) x ne in
        omega (arith, none, later)

stated_some : (n k : ℕ) (ns : List ℕ) → k < length ns → slice_index_or ns k n ≡ n → 1 ≤ stated (following n) ns
stated_some n k [] lt e = absurd (omega (arith, lt))
stated_some n zero (m ∷ ns) lt e =
    let same : one (following m) (following n) ≡ 1 = ap (λ k. one (following k) (following n)) e ∙ one_same (following n) in
    omega (arith, same)
stated_some n (suc k) (m ∷ ns) lt e = omega (arith, stated_some n k ns (omega (arith, lt)) e)

-- ---- labels as a list

abbrev occurs : ℕ → List ℕ → ℕ
occurs x [] = 0
occurs x (l ∷ ls) = one l x + occurs x ls

times_occurs : (x : ℕ) (a : List Line) → times x a ≡ occurs x (segments.labels_of a)
times_occurs x [] = refl
times_occurs x (Label l ∷ a) = omega (arith, times_occurs x a)
times_occurs x (Do op mode operand ∷ a) = times_occurs x a
times_occurs x (Call callee ∷ a) = times_occurs x a

is_there : (x : ℕ) (ls : List ℕ) → 1 ≤ occurs x ls → is_among ls x ≡ true
is_there x [] h = absurd (omega (arith, h))
is_there x (l ∷ ls) h = go (λ more. is_there x ls more) (cases_eq x l)
  where
    go : (1 ≤ occurs x ls → is_among ls x ≡ true) → (x ≡ l) ⊎ (x ≡ l → ⊥) → is_among (l ∷ ls) x ≡ true
    go later (inl e) = or_left (nat_eq x l) (is_among ls x) (eq-eqb x l e)
    go later (inr ne) =
        let none : one l x ≡ 0 = one_other l x (λ e. ne (sym e)) in
        or_right (nat_eq x l) (is_among ls x) (later (omega (arith, h, none)))

not_there : (x : ℕ) (ls : List ℕ) → occurs x ls ≡ 0 → is_among ls x ≡ false
not_there x [] h = refl
not_there x (l ∷ ls) h = go (not_there x ls (omega (arith, h))) (cases_eq x l)
  where
    go : is_among ls x ≡ false → (x ≡ l) ⊎ (x ≡ l → ⊥) → is_among (l ∷ ls) x ≡ false
    go later (inl e) =
        let single : one l x ≡ 1 = ap (λ b. if b then 1 else 0) (eq-eqb l x (sym e)) in
        absurd (omega (arith, h, single))
    go later (inr ne) = ap (λ b. b || is_among ls x) (ne_eqb x l ne) ∙ later

distinct_list : (ls : List ℕ) → ((x : ℕ) → occurs x ls ≤ 1) → is_distinct ls ≡ true
distinct_list [] h = refl
distinct_list (l ∷ ls) h =
    and_from (not (is_among ls l)) (is_distinct ls) (ap not (not_there l ls (omega (arith, h l, one_same l)))) (distinct_list ls (λ x. omega (arith, h x)))

-- ---- the last line

closed_append : (b : Bool) (a c : List Line) → closed_by b (a ++ c) ≡ closed_by (closed_by b a) c
closed_append b [] c = refl
closed_append b (line ∷ a) c = closed_append (is_closing line) a c

end_closes : (variadic : Bool) (f : Framed) (b : Bool) → closed_by b (if variadic then variadic_end f.soft f.bank else plain_end f.soft f.bank f.stacked) ≡ true
end_closes true f b = closed_append _ (raise_code f.soft) _ ∙ closed_append _ (restored_code f.bank) _
end_closes false f b = closed_append b (raise_code f.soft) _ ∙ (closed_append _ (restored_code f.bank) _ ∙ closed_append _ (raise_code f.stacked) _)

-- ---- the function

pub main_flat : (is_main : Bool) → Flat (main_code is_main)
main_flat true = record { plain = refl; fit = refl }
main_flat false = flat_none

-- nothing yet, and the labels of the end and of the body's statements
abbrev begun : Stmt → RegSet → Drafted
begun body out = with_labels (room_of body) (with_labels 1 (no_lines out))

abbrev entered : Framed → Stmt → RegSet → Drafted
entered f body out = with_lines (begun body out) (entry_code f)

abbrev run : Framed → Stmt → RegSet → Drafted
run f body out = with_last f (ways 0 0 0) 0 body (entered f body out)

abbrev ended : Framed → Bool → Stmt → RegSet → Drafted
ended f is_main body out = with_label 0 (with_lines (run f body out) (main_code (is_main && not (returns_last body))))

abbrev whole : Framed → Bool → Stmt → RegSet → Drafted
whole f is_main body out = with_lines (ended f is_main body out) (end_code f)

-- whether a label stands in the whole
abbrev stands : Framed → Bool → Stmt → RegSet → ℕ → Bool
stands f is_main body out x = is_among (segments.labels_of (whole f is_main body out).lines) x

whole_puts : (u : UnitTy) (g : FuncTy) (body : Stmt) (f : Framed) (is_main : Bool) (out : RegSet) → IsBody u g body → (whole f is_main body out).labels ≤ 4294967296
    → Puts (begun body out) (whole f is_main body out) (λ x. others 0 0 body x + one 0 x) (Exits (ways 0 0 0) (labels_of body))
whole_puts u g body f is_main out well few =
    let m1 : Drafted = run f body out in
    let first : Bool = is_main && not (returns_last body) in
    let m2 : Drafted = with_lines m1 (main_code first) in
    puts_end (puts_then (puts_flat (begun body out) (entry_code f) (entry_flat f)) (puts_then (last_puts u (context_of g body) f (ways 0 0 0) 0 body (entered f body out) well.typed few) (puts_then (puts_flat m1 (main_code first) (main_flat first)) (puts_then (puts_label m2 0) (puts_flat (ended f is_main body out) (end_code f) (end_flat f)))))) (λ x. omega arith) (λ ok ex. (tt, (ex, (tt, (tt, tt)))))

known : (u : UnitTy) (g : FuncTy) (body : Stmt) (x : ℕ) → IsBody u g body → others 0 0 body x ≡ stated x (labels_of body)
known u g body x well =
    let none : (length (cases_of body) ≡ 0) × (defaults_of body ≡ 0) = outside u (context_of g body) body refl well.typed in
    let no_cases : laid 0 (length (cases_of body)) x ≡ 0 = ap (λ n. laid 0 n x) none.0 in
    let no_defaults : times_one (defaults_of body) 0 x ≡ 0 = ap (λ n. times_one n 0 x) none.1 in
    omega (arith, others_are 0 0 body x, no_cases, no_defaults, names_stated x body)

pub functions_are_segments : FunctionsAreSegments
functions_are_segments u g body f is_main out well few =
    let lines : List Line = (whole f is_main body out).lines in
    let all : Puts (begun body out) (whole f is_main body out) (λ x. others 0 0 body x + one 0 x) (Exits (ways 0 0 0) (labels_of body)) = whole_puts u g body f is_main out well few in
    let fits : room_of body + 1 ≤ 4294967296 = omega (arith, all.grows, few) in
    let once : (x : ℕ) → times x lines ≤ 1 = λ x. omega (arith, all.most x, known u g body x well, stated_once x (room_of body) (labels_of body) (labels_below body) fits well.labels, below_more 1 (room_of body) x, below_next 0 x, at_most_one (whole f is_main body out).labels x) in
    let ending : stands f is_main body out 0 ≡ true = is_there 0 (segments.labels_of lines) (omega (arith, all.least 0, one_same 0, times_occurs 0 lines)) in
    let goto_passes : (n : ℕ) → Contains (labels_of body) n → stands f is_main body out (following n) ≡ true =
    λ n h. is_there (following n) (segments.labels_of lines) (omega (arith, all.least (following n), known u g body (following n) well, stated_some n h.0 (labels_of body) h.1 h.2, times_occurs (following n) lines)) in
    record {
      fit = all_fit lines (all.fit refl);
      labels = distinct_list (segments.labels_of lines) (λ x. omega (arith, once x, times_occurs x lines));
      targets = all.leads (stands f is_main body out) (record { behind = ending; onward = ending; ending = ending; gotos = goto_passes }) (λ x more. is_there x (segments.labels_of lines) (omega (arith, more, times_occurs x lines))) refl;
      closed = closed_append false (ended f is_main body out).lines (end_code f) ∙ end_closes f.variadic f (closed_by false (ended f is_main body out).lines);
    }
