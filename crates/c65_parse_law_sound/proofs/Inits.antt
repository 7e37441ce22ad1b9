-- Initialisers.
use Rattle.std.proofs.Common.{◌≡◌, ℕ, ◌+◌, ◌≤◌, List, [], ◌∷◌, ◌++◌, length, Bool, true, false, refl, sym, ap, ◌∙◌, subst, append_assoc, arith}
use Rattle.std.proofs.lemmas.List.{append-nil}
use Rattle.std.specs.Prelude.{Ok, Err, None, Some, nat_le, ◌-◌}
use Rattle.c65_base.specs.Answers.{large, ◌>>=◌}
use Rattle.c65_base.specs.declared.refusal.Size.TheVariants.{Depth}
use Rattle.c65_scan.specs.declared.token.Punct.TheVariants as puncts
use Rattle.c65_scan.specs.declared.token.Token.{Token}
use Rattle.c65_tree.specs.Trees as t
use Rattle.c65_parse_names.specs.Scopes.{Blocks}
use Rattle.c65_parse.specs.Reading.{token_at}
use Rattle.c65_parse_frames.specs.declared.sign.Mark.TheVariants as marks
use Rattle.c65_parse_frames.specs.Lists.{OpenList, Listed, listed_whole, listed_open, with_initialiser, empty_list}
use Rattle.c65_decl.specs.Here.{is_here, pos_here}
use Rattle.c65_decl.specs.Initialisers.{element_read, brace_passed, behind_comma, list_end, lists_next, lists_closed, list_begun, initialiser_step, initialiser_next, initialiser_run, initialiser_read, optional_init_read}
use Rattle.c65_parse_grammar.specs.Phrases.{Phrase, ◌▸◌, given, mark, some_mark}
use Rattle.c65_parse_grammar.specs.Spellings.{comma_unless}
use Rattle.c65_parse_grammar.specs.Parts.{level, start}
use Rattle.c65_parse_grammar.specs.Scopes.{Scope, after, after_init, after_inits, after_maybe_init}
use Rattle.c65_parse_grammar.specs.Expressions as g
use Rattle.c65_parse_grammar.specs.Statements.{is_no_init, optional_comma, initialiser, initialisers, optional_init}
use Rattle.c65_parse_law_sound.proofs.Phrases.{both, regroup, map_left, map_right, attach}
use Rattle.c65_parse_law_sound.proofs.Begins.{expr_begins, begins_here}
use Rattle.c65_parse_law_sound.proofs.Got.{EndsIn, Got, seq, weaken, mapped, got_if, seq_mark, first_of_mark, kind_of_mark, is_mark_of, one_here, past}
use Rattle.c65_parse_law_sound.proofs.Parts.{expr_got}

-- the scope in the innermost list
abbrev pub inits_scope : Scope → List OpenList → Scope
inits_scope sc [] = sc
inits_scope sc (l ∷ ls) = after_inits (inits_scope sc ls) l.inits

-- the tokens of the lists that are open
abbrev pub lists_front : Scope → List OpenList → Phrase
lists_front sc [] = λ ts. ts ≡ []
lists_front sc (l ∷ ls) = lists_front sc ls ▸ (mark l.place puncts.OpenBrace ▸ (initialisers (inits_scope sc ls) l.inits ▸ comma_unless (is_no_init l.inits)))

abbrev pub state_front : Scope → Listed → Phrase
state_front sc (listed_whole i) = initialiser sc i
state_front sc (listed_open ls) = lists_front sc ls

abbrev pub state_behind : Scope → Blocks → Listed → Blocks
state_behind sc outer (listed_whole i) = after_init sc i ∷ outer
state_behind sc outer (listed_open ls) = inits_scope sc ls ∷ outer

-- behind nothing
pub at_nothing : (A : Phrase) (xs : List Token) → ((λ ts. ts ≡ []) ▸ A) xs → A xs
at_nothing A xs p = subst A (sym (p.2 ∙ ap (λ ys. ys ++ p.1) p.3)) p.4

pub nil_behind : (A : Phrase) (xs : List Token) → A xs → A (xs ++ [])
nil_behind A xs h = subst A (sym (append-nil xs)) h

-- what stands behind an initialiser in a list
abbrev end_front : Bool → Phrase
end_front true = optional_comma ▸ some_mark puncts.CloseBrace
end_front false = some_mark puncts.Comma

brace_got : (phrase : Bool → Phrase) (scope : Blocks) (ts : List Token) → EndsIn ts → ((tok : Token) → some_mark puncts.CloseBrace (tok ∷ []) → phrase true (tok ∷ [])) → Got phrase (λ b. scope) ts (brace_passed scope ts)
brace_got phrase scope ts ends f = seq_mark marks.CloseBrace phrase (λ b. scope) scope ts _ refl ends (λ tok rest m left. record { front = []; tokens_are = refl; ends = left; derives = f tok m; scope_is = refl })

comma_got : (scope : Blocks) (tok : Token) (ts : List Token) → some_mark puncts.Comma (tok ∷ []) → EndsIn ts → Got (λ b ys. end_front b (tok ∷ ys)) (λ b. scope) ts (behind_comma scope ts)
comma_got scope tok ts m ends = got_if _ _ ts (is_here marks.CloseBrace ts) _ (Ok (false, ts, scope))
    (λ e. brace_got _ scope ts ends (λ last n. (tok ∷ [], last ∷ [], refl, (false, m), n)))
    (λ e. record { front = []; tokens_are = refl; ends = ends; derives = m; scope_is = refl })

end_got : (scope : Blocks) (ts : List Token) → EndsIn ts → Got end_front (λ b. scope) ts (list_end scope ts)
end_got scope ts ends = got_if _ _ ts (is_here marks.Comma ts) _ _
    (λ e. let first = first_of_mark marks.Comma ts refl e ends in past end_front (λ b. scope) ts first (behind_comma scope) (comma_got scope first.tok first.rest (is_mark_of marks.Comma ts first e) first.ends))
    (λ e. brace_got _ scope ts ends (λ last n. ([], last ∷ [], refl, (true, refl), n)))

-- one more initialiser in the list
pub one_more : (sc : Scope) (l : OpenList) (ls : List OpenList) (i : t.InitTree) (xs : List Token) → (lists_front sc (l ∷ ls) ▸ initialiser (inits_scope sc (l ∷ ls)) i) xs → (lists_front sc ls ▸ (mark l.place puncts.OpenBrace ▸ initialisers (inits_scope sc ls) (t.and_init l.inits i))) xs
one_more sc l ls i xs p = map_right (λ ys q. map_right (λ zs r. regroup r) (regroup q)) (regroup p)

-- the list ends
pub list_built : (sc : Scope) (l : OpenList) (ls : List OpenList) (i : t.InitTree) (xs : List Token) → ((lists_front sc ls ▸ (mark l.place puncts.OpenBrace ▸ initialisers (inits_scope sc ls) (t.and_init l.inits i))) ▸ (optional_comma ▸ some_mark puncts.CloseBrace)) xs → (lists_front sc ls ▸ initialiser (inits_scope sc ls) (t.list l.place (t.and_init l.inits i))) xs
list_built sc l ls i xs p = map_right (λ ys q. map_right (λ zs r. map_left (λ vs u. (refl, u)) r) (regroup q)) (regroup p)

next_got : (sc : Scope) (outer : Blocks) (l : OpenList) (ls : List OpenList) (i : t.InitTree) (xs : List Token) → (lists_front sc (l ∷ ls) ▸ initialiser (inits_scope sc (l ∷ ls)) i) xs
    → ((j : t.InitTree) (ts zs : List Token) → (lists_front sc ls ▸ initialiser (inits_scope sc ls) j) zs → EndsIn ts → Got (λ r ys. state_front sc r (zs ++ ys)) (state_behind sc outer) ts (lists_closed ls j (after_init (inits_scope sc ls) j ∷ outer) ts))
    → (b : Bool) (ys rest : List Token) → end_front b ys → EndsIn rest → Got (λ r zs. state_front sc r (xs ++ (ys ++ zs))) (state_behind sc outer) rest (lists_next (lists_closed ls) (with_initialiser l i) ls (b, rest, inits_scope sc (with_initialiser l i ∷ ls) ∷ outer))
next_got sc outer l ls i xs p k true ys rest q left = weaken _ _ _ _ rest _ (k (t.list l.place (t.and_init l.inits i)) rest (xs ++ ys) (list_built sc l ls i (xs ++ ys) (both _ _ (one_more sc l ls i xs p) q)) left) (λ r zs h. subst (state_front sc r) (append_assoc xs ys zs) h) (λ r. refl)
next_got sc outer l ls i xs p k false ys rest q left = record { front = []; tokens_are = refl; ends = left; derives = subst (λ v. lists_front sc (with_initialiser l i ∷ ls) (xs ++ v)) (sym (append-nil ys)) (map_right (λ zs r. regroup r) (attach _ _ (one_more sc l ls i xs p) q)); scope_is = refl }

closed_got : (sc : Scope) (outer : Blocks) (ls : List OpenList) (i : t.InitTree) (ts xs : List Token) → (lists_front sc ls ▸ initialiser (inits_scope sc ls) i) xs → EndsIn ts → Got (λ r ys. state_front sc r (xs ++ ys)) (state_behind sc outer) ts (lists_closed ls i (after_init (inits_scope sc ls) i ∷ outer) ts)
closed_got sc outer [] i ts xs p ends = record { front = []; tokens_are = refl; ends = ends; derives = nil_behind (initialiser sc i) xs (at_nothing (initialiser sc i) xs p); scope_is = refl }
closed_got sc outer (l ∷ ls) i ts xs p ends = seq end_front (λ b. inits_scope sc (with_initialiser l i ∷ ls) ∷ outer) (λ r ys. state_front sc r (xs ++ ys)) (state_behind sc outer) ts (list_end (inits_scope sc (with_initialiser l i ∷ ls) ∷ outer) ts) (lists_next (lists_closed ls) (with_initialiser l i) ls) (end_got (inits_scope sc (with_initialiser l i ∷ ls) ∷ outer) ts ends)
    (λ b ys rest are q left. next_got sc outer l ls i xs p (λ j us zs. closed_got sc outer ls j us zs) b ys rest q left)

begun_got : (limit : ℕ) (sc : Scope) (outer : Blocks) (ls : List OpenList) (ts xs : List Token) → is_here marks.OpenBrace ts ≡ true → lists_front sc ls xs → EndsIn ts → Got (λ r ys. state_front sc r (xs ++ ys)) (state_behind sc outer) ts (list_begun limit ls (inits_scope sc ls ∷ outer) ts)
begun_got limit sc outer ls ts xs e p ends = got_if _ _ ts (nat_le (length ls + 2) limit) _ (Err (large Depth 257))
    (λ f. let first = first_of_mark marks.OpenBrace ts refl e ends in past _ _ ts first (λ r. Ok (listed_open (empty_list (pos_here ts) ∷ ls), r, inits_scope sc ls ∷ outer)) (record {
      front = [];
      tokens_are = refl;
      ends = first.ends;
      derives = (xs, first.tok ∷ [], refl, p, (first.tok ∷ [], [], refl, one_here ts first _ (kind_of_mark marks.OpenBrace ts first e), ([], [], refl, refl, refl)));
      scope_is = refl;
    }))
    (λ f. tt)

element_got : (limit : ℕ) (around : ℕ) (sc : Scope) (outer : Blocks) (ts : List Token) → EndsIn ts → Got (λ e. given (1 ≤ level e) (g.expr sc e)) (λ e. after sc e ∷ outer) ts (element_read limit around (sc ∷ outer) ts)
element_got limit around sc outer ts ends = expr_got (limit - around) 1 sc outer ts (omega arith) ends

-- the element is an initialiser, which begins here
pub element_is : (sc : Scope) (e : t.ExprTree) (ts xs rest : List Token) → ts ≡ xs ++ rest → given (1 ≤ level e) (g.expr sc e) xs → initialiser sc (t.value (pos_here ts) e) xs
element_is sc e ts xs rest are p = ((sym (begins_here (start e) xs rest (expr_begins sc e xs p.1)) ∙ sym (ap (λ ys. (token_at ys 0).pos) are), p.0), p.1)

step_got : (limit : ℕ) (sc : Scope) (outer : Blocks) (ls : List OpenList) (ts xs : List Token) → lists_front sc ls xs → EndsIn ts → Got (λ r ys. state_front sc r (xs ++ ys)) (state_behind sc outer) ts (initialiser_step limit ls (inits_scope sc ls ∷ outer) ts)
step_got limit sc outer ls ts xs p ends = got_if _ _ ts (is_here marks.OpenBrace ts) _ _
    (λ e. begun_got limit sc outer ls ts xs e p ends)
    (λ e. seq _ _ _ _ ts (element_read limit (length ls) (inits_scope sc ls ∷ outer) ts) _ (element_got limit (length ls) (inits_scope sc ls) outer ts ends)
    (λ v ys rest are q left. weaken _ _ _ _ rest _ (closed_got sc outer ls (t.value (pos_here ts) v) rest (xs ++ ys) (both _ _ p (element_is (inits_scope sc ls) v ts ys rest are q)) left) (λ r zs h. subst (state_front sc r) (append_assoc xs ys zs) h) (λ r. refl)))

run_next : (limit : ℕ) (sc : Scope) (outer : Blocks) (xs ys rest : List Token) (us : List Token) (r : Listed) → state_front sc r (xs ++ ys) → EndsIn rest
    → ((ls : List OpenList) (ts zs : List Token) → lists_front sc ls zs → EndsIn ts → Got (λ i vs. initialiser sc i (zs ++ vs)) (λ i. after_init sc i ∷ outer) ts (initialiser_run limit us ls (inits_scope sc ls ∷ outer) ts))
    → Got (λ i zs. initialiser sc i (xs ++ (ys ++ zs))) (λ i. after_init sc i ∷ outer) rest (initialiser_next (initialiser_run limit us) (r, rest, state_behind sc outer r))
run_next limit sc outer xs ys rest us (listed_whole i) h left k = record { front = []; tokens_are = refl; ends = left; derives = subst (λ v. initialiser sc i (xs ++ v)) (sym (append-nil ys)) h; scope_is = refl }
run_next limit sc outer xs ys rest us (listed_open ls) h left k = weaken _ _ _ _ rest _ (k ls rest (xs ++ ys) h left) (λ i zs m. subst (initialiser sc i) (append_assoc xs ys zs) m) (λ i. refl)

run_got : (limit : ℕ) (sc : Scope) (outer : Blocks) (us : List Token) (ls : List OpenList) (ts xs : List Token) → lists_front sc ls xs → EndsIn ts → Got (λ i ys. initialiser sc i (xs ++ ys)) (λ i. after_init sc i ∷ outer) ts (initialiser_run limit us ls (inits_scope sc ls ∷ outer) ts)
run_got limit sc outer [] ls ts xs p ends = tt
run_got limit sc outer (u ∷ us) ls ts xs p ends = seq (λ r ys. state_front sc r (xs ++ ys)) (state_behind sc outer) (λ i ys. initialiser sc i (xs ++ ys)) (λ i. after_init sc i ∷ outer) ts (initialiser_step limit ls (inits_scope sc ls ∷ outer) ts) (initialiser_next (initialiser_run limit us)) (step_got limit sc outer ls ts xs p ends)
    (λ r ys rest are h left. run_next limit sc outer xs ys rest us r h left (λ ms vs zs. run_got limit sc outer us ms vs zs))

pub initialiser_got : (limit : ℕ) (unit : List Token) (sc : Scope) (outer : Blocks) (ts : List Token) → EndsIn ts → Got (initialiser sc) (λ i. after_init sc i ∷ outer) ts (initialiser_read limit unit (sc ∷ outer) ts)
initialiser_got limit unit sc outer ts ends = run_got limit sc outer unit [] ts [] refl ends

pub optional_init_got : (limit : ℕ) (unit : List Token) (sc : Scope) (outer : Blocks) (ts : List Token) → EndsIn ts → Got (optional_init sc) (λ o. after_maybe_init sc o ∷ outer) ts (optional_init_read limit unit (sc ∷ outer) ts)
optional_init_got limit unit sc outer ts ends = got_if _ _ ts (is_here marks.Equal ts) _ (Ok (None, ts, sc ∷ outer))
    (λ e. let first = first_of_mark marks.Equal ts refl e ends in past _ _ ts first (λ r. initialiser_read limit unit (sc ∷ outer) r >>= (λ i. Ok (Some i.0, i.1, i.2))) (mapped Some (initialiser sc) (λ i. after_init sc i ∷ outer) _ _ first.rest (initialiser_read limit unit (sc ∷ outer) first.rest) (initialiser_got limit unit sc outer first.rest first.ends) (λ i xs h. (first.tok ∷ [], xs, refl, is_mark_of marks.Equal ts first e, h)) (λ i. refl)))
    (λ e. record { front = []; tokens_are = refl; ends = ends; derives = refl; scope_is = refl })
