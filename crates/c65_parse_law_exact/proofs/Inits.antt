-- Initialisers (C90 6.5.7).
use Rattle.std.proofs.Common.{◌≡◌, ℕ, suc, ◌+◌, ◌≤◌, List, [], ◌∷◌, ◌++◌, length, Bool, true, false, refl, sym, ap, ◌∙◌, subst, append_assoc, arith}
use Rattle.std.proofs.lemmas.Bool.{leb-true}
use Rattle.std.proofs.lemmas.List.{append-nil}
use Rattle.std.specs.Prelude.{Ok, Err, if◌then◌else◌, nat_le, ◌-◌, Option, None, Some}
use Rattle.c65_base.specs.Answers.{large, ◌>>=◌}
use Rattle.c65_base.specs.declared.refusal.Pos.{Pos}
use Rattle.c65_base.specs.declared.refusal.Size.TheVariants.{Depth}
use Rattle.c65_scan.specs.declared.token.Punct.TheVariants as puncts
use Rattle.c65_scan.specs.declared.token.Token.{Token}
use Rattle.c65_scan.specs.declared.token.TokenKind.TheVariants as kinds
use Rattle.c65_tree.specs.Trees as t
use Rattle.c65_tree.specs.Depth.{expr_depth, init_depth, inits_depth}
use Rattle.c65_tree.specs.Lists.{of_option}
use Rattle.c65_parse_names.specs.Scopes.{Blocks}
use Rattle.c65_parse.specs.Reading.{token_at, after_token}
use Rattle.c65_parse_frames.specs.declared.sign.Mark.TheVariants as marks
use Rattle.c65_parse_frames.specs.Lists.{OpenList, Listed, listed_whole, listed_open, with_initialiser, empty_list}
use Rattle.c65_decl.specs.Here.{is_here, pos_here}
use Rattle.c65_decl.specs.Initialisers.{element_read, brace_passed, behind_comma, list_end, lists_next, lists_closed, initialiser_step, initialiser_next, initialiser_run, initialiser_read, optional_init_read}
use Rattle.c65_parse_grammar.specs.Phrases.{Phrase, ◌▸◌, token, given, mark, some_mark}
use Rattle.c65_parse_grammar.specs.Parts.{level, start}
use Rattle.c65_parse_grammar.specs.Scopes.{Scope, after, after_init, after_maybe_init}
use Rattle.c65_parse_grammar.specs.Expressions as g
use Rattle.c65_parse_grammar.specs.Statements.{optional_comma, initialiser, optional_init}
use Rattle.c65_parse_grammar.specs.Readings.{Continues}
use Rattle.c65_parse_law_sound.proofs.Phrases.{both, regroup, map_right, attach}
use Rattle.c65_parse_law_sound.proofs.Got.{EndsIn, First, first_of_mark, kind_of_mark, one_here}
use Rattle.c65_parse_law_sound.proofs.Inits.{one_more, list_built, element_is, inits_scope, lists_front, state_front, state_behind, at_nothing, nil_behind}
use Rattle.c65_parse_law_alike.proofs.Alike.{expr_deep}
use Rattle.c65_parse_law_faults.proofs.Local.{here_is}
use Rattle.c65_parse_law_faults.proofs.Seq.{tail}
use Rattle.c65_parse_law_faults.proofs.Inits.{marks_it}
use Rattle.c65_parse_law_least.specs.Viable.{FewTypes}
use Rattle.c65_parse_law_least.proofs.Closings.{zero_tree, zero_token}
use Rattle.c65_parse_law_exact.proofs.Pieces.{IsTaken, shorter}
use Rattle.c65_parse_law_exact.proofs.Stops.{Going, Taking, Stop, looser, lifted, stop_done, stop_deep, stop_alike, stop_regrouped, stop_in_scope, stop_by_first, stop_if, stop_if_first, stop_past_mark, mark_taken, stop_seq, stop_mark, stop_tailed, stop_all_steps}
use Rattle.c65_parse_law_exact.proofs.Leaves.{exprs_stop_here}

-- each list that is open is within the limit with those round it
abbrev pub ListsFit : (limit : ℕ) → List OpenList → Type 0
ListsFit limit [] = Unit {0}
ListsFit limit (l ∷ ls) = (inits_depth l.inits + suc (length ls) ≤ limit) × ListsFit limit ls

fit_more : (n m : ℕ) (ls : List OpenList) → n ≤ m → ListsFit n ls → ListsFit m ls
fit_more n m [] low h = tt
fit_more n m (l ∷ ls) low h = (let a = h.0 in omega (arith, a, low), fit_more n m ls low h.1)

-- there is room for an initialiser in the innermost
abbrev StateFits : (limit : ℕ) → Listed → Type 0
StateFits limit (listed_whole i) = init_depth i ≤ limit
StateFits limit (listed_open ls) = ListsFit limit ls × (1 + length ls ≤ limit)

record IsState (limit : ℕ) (sc : Scope) (outer : Blocks) (state : Listed) (scope : Blocks) (xs : List Token) : Type 0 where
  pub front : state_front sc state xs
  pub scope_is : scope ≡ state_behind sc outer state
  pub fits : StateFits limit state
  pub few : FewTypes scope

-- the tokens that are read with the trees of a whole initialiser
abbrev Whole : Scope → Going
Whole sc = Continues (initialiser sc) init_depth

abbrev somewhere : Pos
somewhere = record { file = 0; line = 1 }

abbrev close_brace : Token
close_brace = token (kinds.Punct puncts.CloseBrace) somewhere

-- behind an initialiser the lists close
closed_goes : (n : ℕ) (sc : Scope) (ls : List OpenList) (i : t.InitTree) (xs : List Token) → ListsFit n ls → init_depth i + length ls ≤ n → (lists_front sc ls ▸ initialiser (inits_scope sc ls) i) xs → Whole sc n xs
closed_goes n sc [] i xs fit low p = record { tree = i; more = []; derives = nil_behind (initialiser sc i) xs (at_nothing (initialiser sc i) xs p); within = omega (arith, low) }
closed_goes n sc (l ∷ ls) i xs fit low p = shorter (initialiser sc) init_depth n xs (close_brace ∷ []) (closed_goes n sc ls (t.list l.place (t.and_init l.inits i)) (xs ++ close_brace ∷ []) fit.1 (let a = fit.0 in omega (arith, a, low)) (list_built sc l ls i (xs ++ close_brace ∷ []) (both xs (close_brace ∷ []) (one_more sc l ls i xs p) ([], close_brace ∷ [], refl, (true, refl), (somewhere, refl)))))

-- a number is an initialiser
needed_goes : (n : ℕ) (sc : Scope) (ls : List OpenList) (xs : List Token) → ListsFit n ls → 1 + length ls ≤ n → lists_front sc ls xs → Whole sc n xs
needed_goes n sc ls xs fit room p = shorter (initialiser sc) init_depth n xs (zero_token somewhere ∷ []) (closed_goes n sc ls (t.value somewhere (zero_tree somewhere)) (xs ++ zero_token somewhere ∷ []) fit room (both xs (zero_token somewhere ∷ []) p ((refl, omega arith), refl)))

-- an expression in the lists, of which some tokens stand
element_goes : (n : ℕ) (sc : Scope) (ls : List OpenList) (xs ys : List Token) → ListsFit n ls → lists_front sc ls xs → Continues (λ e. given (1 ≤ level e) (g.expr (inits_scope sc ls) e)) expr_depth (n - length ls) ys → Whole sc n (xs ++ ys)
element_goes n sc ls xs ys fit p k = shorter (initialiser sc) init_depth n (xs ++ ys) k.more
    (closed_goes n sc ls (t.value (start k.tree) k.tree) ((xs ++ ys) ++ k.more) fit (let one = expr_deep k.tree in let deep = k.within in omega (arith, one, deep))
    (subst (lists_front sc ls ▸ initialiser (inits_scope sc ls) (t.value (start k.tree) k.tree)) (sym (append_assoc xs ys k.more)) (both xs (ys ++ k.more) p ((refl, k.derives.0), k.derives.1))))

init_deep : (i : t.InitTree) → 1 ≤ init_depth i
init_deep (t.value l e) = expr_deep e
init_deep (t.list l is) = omega arith

-- what stands behind an initialiser in a list
abbrev end_front : Bool → Phrase
end_front true = optional_comma ▸ some_mark puncts.CloseBrace
end_front false = some_mark puncts.Comma

brace_stops : (limit : ℕ) (goes : Going) (takes : Taking Bool) (scope : Blocks) (unit us ts : List Token) → EndsIn ts → goes limit [] → ((tok : Token) → some_mark puncts.CloseBrace (tok ∷ []) → takes true scope (tok ∷ [])) → Stop limit 0 1 0 goes takes (λ unit us ys. brace_passed scope ys) unit us ts
brace_stops limit goes takes scope unit us ts ends start f = stop_mark limit 0 0 1 goes takes marks.CloseBrace scope (λ a. Ok (true, a.0, a.1)) unit us ts refl (omega arith) ends start
    (λ tok rest m left. stop_done limit 0 0 (λ n xs. goes n (tok ∷ xs)) (λ b s xs. takes b s (tok ∷ xs)) true scope unit us rest left (f tok (mark_taken marks.CloseBrace tok rest refl m left)))

comma_stops : (limit : ℕ) (goes : Going) (takes : Taking Bool) (scope : Blocks) (unit us ts : List Token) → EndsIn ts → goes limit [] → ((tok : Token) → some_mark puncts.CloseBrace (tok ∷ []) → takes true scope (tok ∷ [])) → takes false scope [] → Stop limit 0 0 0 goes takes (λ unit us ys. behind_comma scope ys) unit us ts
comma_stops limit goes takes scope unit us ts ends start f h = stop_if_first limit 0 0 0 goes takes (marks_it marks.CloseBrace) (λ unit us ys. brace_passed scope ys) (λ unit us ys. Ok (false, ys, scope)) unit us ts
    (λ e. looser limit 0 0 1 0 0 goes takes (λ unit us ys. brace_passed scope ys) ts (brace_passed scope ts) (omega arith) (omega arith) (brace_stops limit goes takes scope unit us ts ends start f))
    (λ e. stop_done limit 0 0 goes takes false scope unit us ts ends h)

end_stops : (limit : ℕ) (goes : Going) (takes : Taking Bool) (scope : Blocks) (unit us ts : List Token) → EndsIn ts → goes limit [] → ((tok : Token) → some_mark puncts.Comma (tok ∷ []) → goes limit (tok ∷ [])) → ((b : Bool) (xs : List Token) → end_front b xs → takes b scope xs) → Stop limit 0 1 0 goes takes (λ unit us ys. list_end scope ys) unit us ts
end_stops limit goes takes scope unit us ts ends start more f = stop_if_first limit 0 1 0 goes takes (marks_it marks.Comma) (λ unit us ys. behind_comma scope (after_token ys)) (λ unit us ys. brace_passed scope ys) unit us ts
    (λ e. stop_past_mark limit 0 0 1 goes takes marks.Comma (λ unit us ys. behind_comma scope ys) unit us ts (omega arith) refl e ends
    (λ first m short. comma_stops limit (λ n xs. goes n (first.tok ∷ xs)) (λ b s xs. takes b s (first.tok ∷ xs)) scope unit us first.rest first.ends (more first.tok m) (λ tok c. f true (first.tok ∷ tok ∷ []) (first.tok ∷ [], tok ∷ [], refl, (false, m), c)) (f false (first.tok ∷ []) m)))
    (λ e. brace_stops limit goes takes scope unit us ts ends start (λ tok c. f true (tok ∷ []) ([], tok ∷ [], refl, (true, refl), c)))

-- one more initialiser, and a comma
behind_one : (sc : Scope) (l : OpenList) (ls : List OpenList) (i : t.InitTree) (xs ys : List Token) → (lists_front sc (l ∷ ls) ▸ initialiser (inits_scope sc (l ∷ ls)) i) xs → some_mark puncts.Comma ys → lists_front sc (with_initialiser l i ∷ ls) (xs ++ ys)
behind_one sc l ls i xs ys p q = map_right (λ zs r. regroup r) (attach xs ys (one_more sc l ls i xs p) q)

fit_with : (n : ℕ) (l : OpenList) (ls : List OpenList) (i : t.InitTree) → ListsFit n (l ∷ ls) → init_depth i + length (l ∷ ls) ≤ n → ListsFit n (with_initialiser l i ∷ ls)
fit_with n l ls i fit low = (let a = fit.0 in omega (arith, a, low), fit.1)

room_with : (n : ℕ) (l : OpenList) (ls : List OpenList) (i : t.InitTree) → init_depth i + length (l ∷ ls) ≤ n → 1 + length (with_initialiser l i ∷ ls) ≤ n
room_with n l ls i low = let one = init_deep i in omega (arith, one, low)

abbrev ClosedStops : (limit : ℕ) → Scope → Blocks → List OpenList → Type 0
ClosedStops limit sc outer ls = (i : t.InitTree) (unit us ts xs : List Token) → (lists_front sc ls ▸ initialiser (inits_scope sc ls) i) xs → FewTypes (after_init (inits_scope sc ls) i ∷ outer) → ListsFit limit ls → init_depth i + length ls ≤ limit → EndsIn ts
    → Stop limit 0 0 0 (λ n ys. Whole sc n (xs ++ ys)) (λ r scope ys. IsState limit sc outer r scope (xs ++ ys)) (λ unit us ys. lists_closed ls i (after_init (inits_scope sc ls) i ∷ outer) ys) unit us ts

next_stops : (limit : ℕ) (sc : Scope) (outer : Blocks) (l : OpenList) (ls : List OpenList) (i : t.InitTree) (unit us rest xs ys : List Token) → (lists_front sc (l ∷ ls) ▸ initialiser (inits_scope sc (l ∷ ls)) i) xs → FewTypes (after_init (inits_scope sc (l ∷ ls)) i ∷ outer) → ListsFit limit (l ∷ ls) → init_depth i + length (l ∷ ls) ≤ limit → EndsIn rest → ClosedStops limit sc outer ls
    → (b : Bool) → end_front b ys
    → Stop limit 0 0 0 (λ n zs. Whole sc n (xs ++ (ys ++ zs))) (λ r scope zs. IsState limit sc outer r scope (xs ++ (ys ++ zs))) (λ unit us zs. lists_next (lists_closed ls) (with_initialiser l i) ls (b, zs, after_init (inits_scope sc (l ∷ ls)) i ∷ outer)) unit us rest
next_stops limit sc outer l ls i unit us rest xs ys p few fit low left f true q = stop_regrouped limit 0 0 0 (Whole sc) (IsState limit sc outer) (λ unit us zs. lists_closed ls (t.list l.place (t.and_init l.inits i)) (after_init (inits_scope sc (l ∷ ls)) i ∷ outer) zs) unit us rest xs ys
    (f (t.list l.place (t.and_init l.inits i)) unit us rest (xs ++ ys) (list_built sc l ls i (xs ++ ys) (both xs ys (one_more sc l ls i xs p) q)) few fit.1 (let a = fit.0 in omega (arith, a, low)) left)
next_stops limit sc outer l ls i unit us rest xs ys p few fit low left f false q = stop_done limit 0 0 (λ n zs. Whole sc n (xs ++ (ys ++ zs))) (λ r scope zs. IsState limit sc outer r scope (xs ++ (ys ++ zs))) (listed_open (with_initialiser l i ∷ ls)) (after_init (inits_scope sc (l ∷ ls)) i ∷ outer) unit us rest left
    (record { front = subst (λ v. lists_front sc (with_initialiser l i ∷ ls) (xs ++ v)) (sym (append-nil ys)) (behind_one sc l ls i xs ys p q); scope_is = refl; fits = (fit_with limit l ls i fit low, room_with limit l ls i low); few = few })

closed_stops : (limit : ℕ) (sc : Scope) (outer : Blocks) (ls : List OpenList) → ClosedStops limit sc outer ls
closed_stops limit sc outer [] i unit us ts xs p few fit low ends = stop_done limit 0 0 (λ n ys. Whole sc n (xs ++ ys)) (λ r scope ys. IsState limit sc outer r scope (xs ++ ys)) (listed_whole i) (after_init sc i ∷ outer) unit us ts ends
    (record { front = nil_behind (initialiser sc i) xs (at_nothing (initialiser sc i) xs p); scope_is = refl; fits = omega (arith, low); few = few })
closed_stops limit sc outer (l ∷ ls) i unit us ts xs p few fit low ends =
    let scope : Blocks = after_init (inits_scope sc (l ∷ ls)) i ∷ outer in
    stop_seq limit 0 0 1 0 0 0 0 (λ n ys. Whole sc n (xs ++ ys)) (λ n ys. Whole sc n (xs ++ ys)) (λ b s ys. (s ≡ scope) × end_front b ys) (λ r s ys. IsState limit sc outer r s (xs ++ ys)) (λ unit us ys. list_end scope ys) (λ unit us. lists_next (lists_closed ls) (with_initialiser l i) ls) unit us ts (omega arith) (omega arith) (omega arith) ends
    (end_stops limit (λ n ys. Whole sc n (xs ++ ys)) (λ b s ys. (s ≡ scope) × end_front b ys) scope unit us ts ends
    (nil_behind (Whole sc limit) xs (closed_goes limit sc (l ∷ ls) i xs fit low p))
    (λ tok m. needed_goes limit sc (with_initialiser l i ∷ ls) (xs ++ tok ∷ []) (fit_with limit l ls i fit low) (room_with limit l ls i low) (behind_one sc l ls i xs (tok ∷ []) p m))
    (λ b ys q. (refl, q)))
    (λ n ys less k. k)
    (λ b s ys rest q are left short. stop_in_scope limit 0 0 0 (λ n zs. Whole sc n (xs ++ (ys ++ zs))) (λ r inner zs. IsState limit sc outer r inner (xs ++ (ys ++ zs))) (λ inner unit us zs. lists_next (lists_closed ls) (with_initialiser l i) ls (b, zs, inner)) unit us rest s scope q.0
    (next_stops limit sc outer l ls i unit us rest xs ys p few fit low left (closed_stops limit sc outer ls) b q.1))

-- a list begins
begun_front : (sc : Scope) (ls : List OpenList) (l : Pos) (xs : List Token) (tok : Token) → lists_front sc ls xs → mark l puncts.OpenBrace (tok ∷ []) → lists_front sc (empty_list l ∷ ls) (xs ++ tok ∷ [])
begun_front sc ls l xs tok p m = (xs, tok ∷ [], refl, p, (tok ∷ [], [], refl, m, ([], [], refl, refl, refl)))

begun_stops : (limit : ℕ) (sc : Scope) (outer : Blocks) (ls : List OpenList) (unit us ts xs : List Token) → lists_front sc ls xs → FewTypes (inits_scope sc ls ∷ outer) → ListsFit limit ls → 1 + length ls ≤ limit → is_here marks.OpenBrace ts ≡ true → EndsIn ts
    → Stop limit 0 1 0 (λ n ys. Whole sc n (xs ++ ys)) (λ r scope ys. IsState limit sc outer r scope (xs ++ ys)) (λ unit us ys. if nat_le (length ls + 2) limit then Ok (listed_open (empty_list (pos_here ts) ∷ ls), after_token ys, inits_scope sc ls ∷ outer) else Err (large Depth 257)) unit us ts
begun_stops limit sc outer ls unit us ts xs p few fit room e ends =
    let scope : Blocks = inits_scope sc ls ∷ outer in
    let opened : List OpenList = empty_list (pos_here ts) ∷ ls in
    let front : (first : First ts) → lists_front sc opened (xs ++ first.tok ∷ []) = λ first. begun_front sc ls (pos_here ts) xs first.tok p (one_here ts first (kinds.Punct puncts.OpenBrace) (kind_of_mark marks.OpenBrace ts first e)) in
    stop_if limit 0 1 0 (λ n ys. Whole sc n (xs ++ ys)) (λ r s ys. IsState limit sc outer r s (xs ++ ys)) (nat_le (length ls + 2) limit) (λ unit us ys. Ok (listed_open opened, after_token ys, scope)) (λ unit us ys. Err (large Depth 257)) unit us ts
    (λ h. stop_past_mark limit 0 0 1 (λ n ys. Whole sc n (xs ++ ys)) (λ r s ys. IsState limit sc outer r s (xs ++ ys)) marks.OpenBrace (λ unit us ys. Ok (listed_open opened, ys, scope)) unit us ts (omega arith) refl e ends
    (λ first m short. stop_done limit 0 0 (λ n ys. Whole sc n (xs ++ first.tok ∷ ys)) (λ r s ys. IsState limit sc outer r s (xs ++ first.tok ∷ ys)) (listed_open opened) scope unit us first.rest first.ends
    (let less = leb-true (length ls + 2) limit h in record { front = front first; scope_is = refl; fits = ((omega (arith, less), fit), omega (arith, less)); few = few })))
    (λ h. stop_deep limit 0 1 0 (λ n ys. Whole sc n (xs ++ ys)) (λ r s ys. IsState limit sc outer r s (xs ++ ys)) unit us ts ends (nil_behind (Whole sc limit) xs (needed_goes limit sc ls xs fit room p))
    (λ x rest are. let first = first_of_mark marks.OpenBrace ts refl e ends in (limit + 2, omega arith, subst (λ v. Whole sc (limit + 2) (xs ++ v ∷ [])) (sym first.here ∙ (ap (λ ys. token_at ys 0) are ∙ here_is x rest)) (needed_goes (limit + 2) sc opened (xs ++ first.tok ∷ []) (omega (arith, room), fit_more limit (limit + 2) ls (omega arith) fit) (omega (arith, room)) (front first)))))

-- an expression in so many lists
abbrev element : Scope → t.ExprTree → Phrase
element sc e = given (1 ≤ level e) (g.expr sc e)

element_stops : (limit around : ℕ) (sc : Scope) (outer : Blocks) (unit us ts : List Token) → 1 + around ≤ limit → FewTypes (sc ∷ outer) → EndsIn ts
    → Stop limit 0 1 0 (λ n ys. Continues (element sc) expr_depth (n - around) ys) (IsTaken (element sc) (λ e. after sc e ∷ outer) expr_depth (limit - around)) (λ unit us ys. element_read limit around (sc ∷ outer) ys) unit us ts
element_stops limit around sc outer unit us ts room few ends = lifted (limit - around) limit 0 1 0 (Continues (element sc) expr_depth) (λ n ys. Continues (element sc) expr_depth (n - around) ys) (IsTaken (element sc) (λ e. after sc e ∷ outer) expr_depth (limit - around)) (λ unit us ys. element_read limit around (sc ∷ outer) ys) ts (element_read limit around (sc ∷ outer) ts)
    (λ ys k. k)
    (λ n ys low k. (n + around, omega (arith, room, low), subst (λ m. Continues (element sc) expr_depth m ys) (omega arith) k))
    (exprs_stop_here (limit - around) 1 sc outer unit us ts (omega (arith, room)) (omega arith) few ends)

value_stops : (limit : ℕ) (sc : Scope) (outer : Blocks) (ls : List OpenList) (unit us ts xs : List Token) → lists_front sc ls xs → FewTypes (inits_scope sc ls ∷ outer) → ListsFit limit ls → 1 + length ls ≤ limit → EndsIn ts
    → Stop limit 0 1 0 (λ n ys. Whole sc n (xs ++ ys)) (λ r scope ys. IsState limit sc outer r scope (xs ++ ys)) (λ unit us ys. element_read limit (length ls) (inits_scope sc ls ∷ outer) ys >>= (λ e. lists_closed ls (t.value (pos_here ts) e.0) e.2 e.1)) unit us ts
value_stops limit sc outer ls unit us ts xs p few fit room ends = stop_seq limit 0 0 1 0 1 0 0 (λ n ys. Continues (element (inits_scope sc ls)) expr_depth (n - length ls) ys) (λ n ys. Whole sc n (xs ++ ys)) (IsTaken (element (inits_scope sc ls)) (λ e. after (inits_scope sc ls) e ∷ outer) expr_depth (limit - length ls)) (λ r s ys. IsState limit sc outer r s (xs ++ ys))
    (λ unit us ys. element_read limit (length ls) (inits_scope sc ls ∷ outer) ys) (λ unit us e. lists_closed ls (t.value (pos_here ts) e.0) e.2 e.1) unit us ts (omega arith) (omega arith) (omega arith) ends (element_stops limit (length ls) (inits_scope sc ls) outer unit us ts room few ends)
    (λ n ys low k. element_goes n sc ls xs ys (fit_more limit n ls low fit) p k)
    (λ v s ys rest h are left short. stop_in_scope limit 0 0 0 (λ n zs. Whole sc n (xs ++ (ys ++ zs))) (λ r inner zs. IsState limit sc outer r inner (xs ++ (ys ++ zs))) (λ inner unit us zs. lists_closed ls (t.value (pos_here ts) v) inner zs) unit us rest s (after (inits_scope sc ls) v ∷ outer) h.scope_is
    (stop_regrouped limit 0 0 0 (Whole sc) (IsState limit sc outer) (λ unit us zs. lists_closed ls (t.value (pos_here ts) v) (after (inits_scope sc ls) v ∷ outer) zs) unit us rest xs ys
    (closed_stops limit sc outer ls (t.value (pos_here ts) v) unit us rest (xs ++ ys) (both xs ys p (element_is (inits_scope sc ls) v ts ys rest are h.derives)) (subst FewTypes h.scope_is h.few) fit (let one = expr_deep v in let deep = h.within in omega (arith, one, deep)) left)))

step_stops : (limit : ℕ) (sc : Scope) (outer : Blocks) (ls : List OpenList) (unit us ts xs : List Token) → lists_front sc ls xs → FewTypes (inits_scope sc ls ∷ outer) → ListsFit limit ls → 1 + length ls ≤ limit → EndsIn ts
    → Stop limit 0 1 0 (λ n ys. Whole sc n (xs ++ ys)) (λ r scope ys. IsState limit sc outer r scope (xs ++ ys)) (λ unit us ys. initialiser_step limit ls (inits_scope sc ls ∷ outer) ys) unit us ts
step_stops limit sc outer ls unit us ts xs p few fit room ends =
    let scope : Blocks = inits_scope sc ls ∷ outer in
    stop_by_first limit 0 1 0 (λ n ys. Whole sc n (xs ++ ys)) (λ r s ys. IsState limit sc outer r s (xs ++ ys)) (λ x unit us ys. if marks_it marks.OpenBrace x then (if nat_le (length ls + 2) limit then Ok (listed_open (empty_list x.pos ∷ ls), after_token ys, scope) else Err (large Depth 257)) else (element_read limit (length ls) scope ys >>= (λ e. lists_closed ls (t.value x.pos e.0) e.2 e.1))) unit us ts
    (stop_if limit 0 1 0 (λ n ys. Whole sc n (xs ++ ys)) (λ r s ys. IsState limit sc outer r s (xs ++ ys)) (marks_it marks.OpenBrace (token_at ts 0)) (λ unit us ys. if nat_le (length ls + 2) limit then Ok (listed_open (empty_list (pos_here ts) ∷ ls), after_token ys, scope) else Err (large Depth 257)) (λ unit us ys. element_read limit (length ls) scope ys >>= (λ e. lists_closed ls (t.value (pos_here ts) e.0) e.2 e.1)) unit us ts
    (λ e. begun_stops limit sc outer ls unit us ts xs p few fit room e ends)
    (λ e. value_stops limit sc outer ls unit us ts xs p few fit room ends))

-- a step is left where there are tokens
unrolled : (limit : ℕ) (ls : List OpenList) (scope : Blocks) (unit us ys : List Token) → 0 + 1 ≤ length us → initialiser_run limit us ls scope ys ≡ (initialiser_step limit ls scope ys >>= initialiser_next (initialiser_run limit (tail us)))
unrolled limit ls scope unit [] ys h = absurd (omega (arith, h))
unrolled limit ls scope unit (u ∷ us) ys h = refl

abbrev Read : (limit : ℕ) → Scope → Blocks → Taking t.InitTree
Read limit sc outer = IsTaken (initialiser sc) (λ i. after_init sc i ∷ outer) init_depth limit

abbrev RunStops : (limit : ℕ) → Scope → Blocks → List Token → List Token → List Token → Type 0
RunStops limit sc outer unit us ts = (ls : List OpenList) (xs : List Token) → lists_front sc ls xs → FewTypes (inits_scope sc ls ∷ outer) → ListsFit limit ls → 1 + length ls ≤ limit
    → Stop limit 0 0 0 (λ n ys. Whole sc n (xs ++ ys)) (λ i scope ys. Read limit sc outer i scope (xs ++ ys)) (λ unit us ys. initialiser_run limit us ls (inits_scope sc ls ∷ outer) ys) unit us ts

more_stops : (limit : ℕ) (sc : Scope) (outer : Blocks) (r : Listed) (scope : Blocks) (unit : List Token) (u : Token) (us rest xs ys : List Token) → IsState limit sc outer r scope (xs ++ ys) → EndsIn rest → RunStops limit sc outer unit us rest
    → Stop limit 0 0 1 (λ n zs. Whole sc n (xs ++ (ys ++ zs))) (λ i inner zs. Read limit sc outer i inner (xs ++ (ys ++ zs))) (λ unit us zs. initialiser_next (initialiser_run limit (tail us)) (r, zs, scope)) unit (u ∷ us) rest
more_stops limit sc outer (listed_whole i) scope unit u us rest xs ys h left f = stop_done limit 0 1 (λ n zs. Whole sc n (xs ++ (ys ++ zs))) (λ j inner zs. Read limit sc outer j inner (xs ++ (ys ++ zs))) i scope unit (u ∷ us) rest left
    (record { derives = subst (λ v. initialiser sc i (xs ++ v)) (sym (append-nil ys)) h.front; scope_is = h.scope_is; within = h.fits; few = h.few })
more_stops limit sc outer (listed_open ls) scope unit u us rest xs ys h left f = stop_tailed limit 0 0 (λ n zs. Whole sc n (xs ++ (ys ++ zs))) (λ i inner zs. Read limit sc outer i inner (xs ++ (ys ++ zs))) (λ unit us zs. initialiser_run limit us ls scope zs) unit u us rest
    (stop_regrouped limit 0 0 0 (Whole sc) (Read limit sc outer) (λ unit us zs. initialiser_run limit us ls scope zs) unit us rest xs ys
    (stop_in_scope limit 0 0 0 (λ n zs. Whole sc n ((xs ++ ys) ++ zs)) (λ i inner zs. Read limit sc outer i inner ((xs ++ ys) ++ zs)) (λ s unit us zs. initialiser_run limit us ls s zs) unit us rest scope (inits_scope sc ls ∷ outer) h.scope_is
    (f ls (xs ++ ys) h.front (subst FewTypes h.scope_is h.few) h.fits.0 h.fits.1)))

run_stops : (limit : ℕ) (sc : Scope) (outer : Blocks) (unit us ts : List Token) → EndsIn ts → length ts ≤ length us → RunStops limit sc outer unit us ts
run_stops limit sc outer unit us [] ends enough ls xs p few fit room = absurd ends
run_stops limit sc outer unit [] (x ∷ ts) ends enough ls xs p few fit room = absurd (omega (arith, enough))
run_stops limit sc outer unit (u ∷ us) (x ∷ ts) ends enough ls xs p few fit room =
    let scope : Blocks = inits_scope sc ls ∷ outer in
    stop_alike limit 0 0 0 (λ n ys. Whole sc n (xs ++ ys)) (λ i s ys. Read limit sc outer i s (xs ++ ys)) (λ unit us ys. initialiser_step limit ls scope ys >>= initialiser_next (initialiser_run limit (tail us))) (λ unit us ys. initialiser_run limit us ls scope ys) (x ∷ ts) (initialiser_run limit (u ∷ us) ls scope (x ∷ ts)) (unrolled limit ls scope)
    (stop_seq limit 0 0 1 0 0 0 1 (λ n ys. Whole sc n (xs ++ ys)) (λ n ys. Whole sc n (xs ++ ys)) (λ r s ys. IsState limit sc outer r s (xs ++ ys)) (λ i s ys. Read limit sc outer i s (xs ++ ys)) (λ unit us ys. initialiser_step limit ls scope ys) (λ unit us. initialiser_next (initialiser_run limit (tail us))) unit (u ∷ us) (x ∷ ts) (omega arith) (omega arith) (omega arith) ends
    (step_stops limit sc outer ls unit (u ∷ us) (x ∷ ts) xs p few fit room ends)
    (λ n ys low k. k)
    (λ r s ys rest h are left short. more_stops limit sc outer r s unit u us rest xs ys h left (run_stops limit sc outer unit us rest left (omega (arith, enough, short)))))

pub init_stops : (limit : ℕ) (sc : Scope) (outer : Blocks) (unit us ts : List Token) → 1 ≤ limit → FewTypes (sc ∷ outer) → EndsIn ts → length ts ≤ length unit
    → Stop limit 0 0 0 (Continues (initialiser sc) init_depth) (IsTaken (initialiser sc) (λ i. after_init sc i ∷ outer) init_depth limit) (λ unit us ys. initialiser_read limit unit (sc ∷ outer) ys) unit us ts
init_stops limit sc outer unit us ts one few ends fit = stop_all_steps limit 0 0 (Whole sc) (Read limit sc outer) (λ unit us ys. initialiser_run limit us [] (sc ∷ outer) ys) unit us ts (run_stops limit sc outer unit unit ts ends fit [] [] refl few tt one)

-- an initialiser behind an equals sign, or nothing
init_begun : (sc : Scope) (n : ℕ) (tok : Token) (ys : List Token) → some_mark puncts.Equal (tok ∷ []) → Whole sc n ys → Continues (optional_init sc) (of_option init_depth) n (tok ∷ ys)
init_begun sc n tok ys m k = record { tree = Some k.tree; more = k.more; derives = (tok ∷ [], ys ++ k.more, refl, m, k.derives); within = k.within }

pub optional_init_stops : (limit : ℕ) (sc : Scope) (outer : Blocks) (unit us ts : List Token) → 1 ≤ limit → FewTypes (sc ∷ outer) → EndsIn ts → length ts ≤ length unit
    → Stop limit 0 0 0 (Continues (optional_init sc) (of_option init_depth)) (IsTaken (optional_init sc) (λ o. after_maybe_init sc o ∷ outer) (of_option init_depth) limit) (λ unit us ys. optional_init_read limit unit (sc ∷ outer) ys) unit us ts
optional_init_stops limit sc outer unit us ts one few ends fit =
    let goes : Going = Continues (optional_init sc) (of_option init_depth) in
    let takes : Taking (Option t.InitTree) = IsTaken (optional_init sc) (λ o. after_maybe_init sc o ∷ outer) (of_option init_depth) limit in
    stop_if_first limit 0 0 0 goes takes (marks_it marks.Equal) (λ unit us ys. initialiser_read limit unit (sc ∷ outer) (after_token ys) >>= (λ i. Ok (Some i.0, i.1, i.2))) (λ unit us ys. Ok (None, ys, sc ∷ outer)) unit us ts
    (λ e. stop_past_mark limit 0 0 0 goes takes marks.Equal (λ unit us ys. initialiser_read limit unit (sc ∷ outer) ys >>= (λ i. Ok (Some i.0, i.1, i.2))) unit us ts (omega arith) refl e ends
    (λ first m short. stop_seq limit 0 0 0 0 0 0 0 (Whole sc) (λ n ys. goes n (first.tok ∷ ys)) (Read limit sc outer) (λ o s ys. takes o s (first.tok ∷ ys)) (λ unit us ys. initialiser_read limit unit (sc ∷ outer) ys) (λ unit us i. Ok (Some i.0, i.1, i.2)) unit us first.rest (omega arith) (omega arith) (omega arith) first.ends
    (init_stops limit sc outer unit us first.rest one few first.ends (omega (arith, fit, short)))
    (λ n ys low k. init_begun sc n first.tok ys m k)
    (λ i s ys rest h are left less. stop_done limit 0 0 (λ n zs. goes n (first.tok ∷ (ys ++ zs))) (λ o inner zs. takes o inner (first.tok ∷ (ys ++ zs))) (Some i) s unit us rest left
    (record { derives = (first.tok ∷ [], ys ++ [], refl, m, nil_behind (initialiser sc i) ys h.derives); scope_is = h.scope_is; within = h.within; few = h.few }))))
    (λ e. stop_done limit 0 0 goes takes None (sc ∷ outer) unit us ts ends (record { derives = refl; scope_is = refl; within = omega arith; few = few }))
