-- Expressions, specifiers and declarators.
use Rattle.std.proofs.Common.{◌≡◌, ℕ, ◌≤◌, List, ◌∷◌, ◌++◌, length, Bool, true, refl, sym, ap, ◌∙◌, subst, inl, arith}
use Rattle.std.proofs.lemmas.List.{append_cancel_right}
use Rattle.std.specs.Prelude.{Ok, Err, Option, None, Some}
use Rattle.c65_base.specs.declared.names.Name.{Name}
use Rattle.c65_base.specs.declared.refusal.Pos.{Pos}
use Rattle.c65_scan.specs.declared.token.Token.{Token}
use Rattle.c65_tree.specs.Trees as t
use Rattle.c65_tree.specs.Depth.{expr_depth, specifiers_depth, declarator_depth}
use Rattle.c65_parse_names.specs.Scopes.{Blocks}
use Rattle.c65_parse.specs.declared.frame.Change.TheVariants as changes
use Rattle.c65_parse.specs.declared.frame.Sort.TheVariants as sorts
use Rattle.c65_parse.specs.Reading.{Answer, expr_read, specifiers_read, declarator_read}
use Rattle.c65_decl.specs.Here.{pos_here, begins_specifiers}
use Rattle.c65_decl.specs.Declaring.{naming_of, declared_maybe, named_read}
use Rattle.c65_parse_grammar.specs.Phrases.{Phrase, given}
use Rattle.c65_parse_grammar.specs.Parts.{level, declarator_start, declared_name, has_type, is_typedef}
use Rattle.c65_parse_grammar.specs.Scopes.{Scope, after, after_specifiers, after_declarator, declared}
use Rattle.c65_parse_grammar.specs.Expressions as g
use Rattle.c65_parse_grammar.specs.Statements.{head_specifiers}
use Rattle.c65_parse_grammar.specs.Readings.{Continues}
use Rattle.c65_parse_law_sound.proofs.Declarators.{any_place}
use Rattle.c65_parse_law_sound.proofs.Declarations.{specifiers_there}
use Rattle.c65_parse_law_sound.proofs.Derivations.{declarators_are_derived}
use Rattle.c65_parse_law_sound.proofs.Got.{EndsIn, Got}
use Rattle.c65_parse_law_sound.proofs.Inits.{nil_behind}
use Rattle.c65_parse_law_sound.proofs.Parts.{by_law, expr_got, specifiers_got, declared_is}
use Rattle.c65_parse_law_sound.proofs.Within.{Within, expr_within, specifiers_within, declarator_within}
use Rattle.c65_parse_law_trees.proofs.Firsts.{begins_list}
use Rattle.c65_parse_law_faults.proofs.Local.{Reader, Triple, Is}
use Rattle.c65_parse_law_faults.proofs.Runs.{expr_local, specifiers_local, named_local}
use Rattle.c65_parse_law_least.specs.Viable.{FewTypes}
use Rattle.c65_parse_law_least.proofs.Halting.{Halts}
use Rattle.c65_parse_law_least.proofs.Stopping.{few_changed}
use Rattle.c65_parse_law_least.proofs.Whole.{expr_outcome, some_specifiers_outcome, declarator_outcome}
use Rattle.c65_parse_law_exact.proofs.Pieces.{IsTaken}
use Rattle.c65_parse_law_exact.proofs.Stops.{Going, Taking, StopIs, Stop, weaker, stop_done, stop_seq}

-- what the laws say of a reading
stop_of : {Tree : Type 0} (limit m : ℕ) (begun phrase : Tree → Phrase) (depth : Tree → ℕ) (behind : Tree → Blocks) (read : List Token → Answer Tree) (ts : List Token) (r : Answer Tree)
    → Halts limit begun depth read ts r → Is 0 m 0 (λ unit us ys. read ys) ts r → Got phrase behind ts r → Within (λ a. depth a ≤ limit) r
    → StopIs limit 0 m 0 (Continues begun depth) (IsTaken phrase behind depth limit) (λ unit us ys. read ys) ts r
stop_of limit m begun phrase depth behind read ts (Ok (a, rest, scope)) few w h deep = record {
  went = w;
  taken = record {
    derives = subst (phrase a) (append_cancel_right h.front w.before rest (sym h.tokens_are ∙ (w.tokens_are ∙ ap (λ xs. w.before ++ xs) (sym w.rest_is)))) h.derives;
    scope_is = h.scope_is;
    within = deep;
    few = few;
  };
}
stop_of limit m begun phrase depth behind read ts (Err e) s w h deep = record {
  failed = record { before = s.before; next = s.next; others = s.others; tokens_are = s.tokens_are; fault_is = s.fault_is; late = inl (omega arith); again = λ unit us more fit room. s.again more };
  goes_on = s.goes_on;
  deeper = s.deeper;
}

-- an expression
pub exprs_stop_here : (limit least : ℕ) (sc : Scope) (outer : Blocks) (unit us ts : List Token) → 1 ≤ limit → least ≤ 13 → FewTypes (sc ∷ outer) → EndsIn ts
    → Stop limit 0 1 0 (Continues (λ e. given (least ≤ level e) (g.expr sc e)) expr_depth) (IsTaken (λ e. given (least ≤ level e) (g.expr sc e)) (λ e. after sc e ∷ outer) expr_depth limit) (λ unit us ys. expr_read limit least (sc ∷ outer) ys) unit us ts
exprs_stop_here limit least sc outer unit us ts one low few ends = stop_of limit 1 (λ e. given (least ≤ level e) (g.expr sc e)) (λ e. given (least ≤ level e) (g.expr sc e)) expr_depth (λ e. after sc e ∷ outer) (expr_read limit least (sc ∷ outer)) ts (expr_read limit least (sc ∷ outer) ts)
    (expr_outcome limit least sc outer ts one low few ends) (expr_local limit least (sc ∷ outer) unit us ts ends) (expr_got limit least sc outer ts low ends) (expr_within limit least (sc ∷ outer) ts)

-- specifiers, or none, before a declarator; where they stop some go on
pub head_stops : (limit : ℕ) (sc : Scope) (outer : Blocks) (unit us ts : List Token) → 1 ≤ limit → FewTypes (sc ∷ outer) → EndsIn ts
    → Stop limit 0 0 0 (Continues (g.specifiers sc true) specifiers_depth) (IsTaken (head_specifiers sc (pos_here ts)) (λ q. after_specifiers sc q ∷ outer) specifiers_depth limit) (λ unit us ys. specifiers_read limit (sc ∷ outer) ys) unit us ts
head_stops limit sc outer unit us ts one few ends = stop_of limit 0 (g.specifiers sc true) (head_specifiers sc (pos_here ts)) specifiers_depth (λ q. after_specifiers sc q ∷ outer) (specifiers_read limit (sc ∷ outer)) ts (specifiers_read limit (sc ∷ outer) ts)
    (some_specifiers_outcome limit sc outer ts one few ends) (specifiers_local limit (sc ∷ outer) unit us ts ends) (specifiers_got limit sc outer ts ends) (specifiers_within limit one (sc ∷ outer) ts)

-- an answer that has tokens
some_taken : {A : Type 0} (limit c k : ℕ) (goes : Going) (takes : Taking A) (read : Reader (Triple A)) (ts : List Token) (r : Answer A) → ((a : A) (scope : Blocks) (xs : List Token) → takes a scope xs → 1 ≤ length xs) → StopIs limit c 0 k goes takes read ts r → StopIs limit c 1 k goes takes read ts r
some_taken limit c k goes takes read ts (Ok (a, rest, scope)) f h = record { went = record { before = h.went.before; next = h.went.next; others = h.went.others; tokens_are = h.went.tokens_are; rest_is = h.went.rest_is; some = f a scope h.went.before h.taken; again = h.went.again }; taken = h.taken }
some_taken limit c k goes takes read ts (Err e) f h = h

list_some : (sc : Scope) (q : t.SpecifiersTree) (xs : List Token) → g.specifiers sc true q xs → 1 ≤ length xs
list_some sc (t.specifiers l qs) xs p = let first = begins_list qs sc true xs p.0.0 p.1 in let long = ap length first.are in omega (arith, long)

-- where a specifier begins
pub specifiers_stop_here : (limit : ℕ) (sc : Scope) (outer : Blocks) (unit us ts : List Token) → 1 ≤ limit → FewTypes (sc ∷ outer) → begins_specifiers (sc ∷ outer) ts ≡ true → EndsIn ts
    → Stop limit 0 1 0 (Continues (g.specifiers sc true) specifiers_depth) (IsTaken (g.specifiers sc true) (λ q. after_specifiers sc q ∷ outer) specifiers_depth limit) (λ unit us ys. specifiers_read limit (sc ∷ outer) ys) unit us ts
specifiers_stop_here limit sc outer unit us ts one few begins ends = some_taken limit 0 0 (Continues (g.specifiers sc true) specifiers_depth) (IsTaken (g.specifiers sc true) (λ q. after_specifiers sc q ∷ outer) specifiers_depth limit) (λ unit us ys. specifiers_read limit (sc ∷ outer) ys) ts (specifiers_read limit (sc ∷ outer) ts) (λ q scope xs h. list_some sc q xs h.derives)
    (stop_of limit 0 (g.specifiers sc true) (g.specifiers sc true) specifiers_depth (λ q. after_specifiers sc q ∷ outer) (specifiers_read limit (sc ∷ outer)) ts (specifiers_read limit (sc ∷ outer) ts)
    (some_specifiers_outcome limit sc outer ts one few ends) (specifiers_local limit (sc ∷ outer) unit us ts ends) (specifiers_there limit sc outer ts begins ends) (specifiers_within limit one (sc ∷ outer) ts))

-- a declarator whose name must stand
abbrev pub named_phrase : Bool → Scope → t.DeclaratorTree → Phrase
named_phrase typed sc d = g.declarator (g.named typed) sc (declarator_start d) d

declarator_there : (limit : ℕ) (typed : Bool) (sc : Scope) (outer : Blocks) (ts : List Token) → EndsIn ts → Got (named_phrase typed sc) (λ d. after_declarator sc d ∷ outer) ts (declarator_read limit (sorts.Named typed) (sc ∷ outer) ts)
declarator_there limit typed sc outer ts ends = by_law (g.declarator (g.named typed) sc) (named_phrase typed sc) (after_declarator sc) outer ts (declarator_read limit (sorts.Named typed) (sc ∷ outer) ts) ends (λ a rest scope e. declarators_are_derived limit (sorts.Named typed) sc outer ts a rest scope e) (λ a xs u us are p. any_place (g.named typed) sc a u.pos (declarator_start a) xs refl p)

pub named_stops : (limit : ℕ) (typed : Bool) (sc : Scope) (outer : Blocks) (unit us ts : List Token) → 1 ≤ limit → FewTypes (sc ∷ outer) → EndsIn ts
    → Stop limit 0 1 0 (Continues (named_phrase typed sc) declarator_depth) (IsTaken (named_phrase typed sc) (λ d. after_declarator sc d ∷ outer) declarator_depth limit) (λ unit us ys. declarator_read limit (sorts.Named typed) (sc ∷ outer) ys) unit us ts
named_stops limit typed sc outer unit us ts one few ends =
    let l : Pos = pos_here ts in
    weaker limit 0 1 0 (Continues (g.declarator (g.named typed) sc l) declarator_depth) (Continues (named_phrase typed sc) declarator_depth) (IsTaken (named_phrase typed sc) (λ d. after_declarator sc d ∷ outer) declarator_depth limit) (IsTaken (named_phrase typed sc) (λ d. after_declarator sc d ∷ outer) declarator_depth limit) (λ unit us ys. declarator_read limit (sorts.Named typed) (sc ∷ outer) ys) ts (declarator_read limit (sorts.Named typed) (sc ∷ outer) ts)
    (λ n xs low k. record { tree = k.tree; more = k.more; derives = any_place (g.named typed) sc k.tree l (declarator_start k.tree) (xs ++ k.more) refl k.derives; within = k.within })
    (λ d scope xs h. h)
    (stop_of limit 1 (g.declarator (g.named typed) sc l) (named_phrase typed sc) declarator_depth (λ d. after_declarator sc d ∷ outer) (declarator_read limit (sorts.Named typed) (sc ∷ outer)) ts (declarator_read limit (sorts.Named typed) (sc ∷ outer) ts)
    (declarator_outcome limit (sorts.Named typed) sc outer l ts one few ends) (named_local limit typed (sc ∷ outer) unit us ts ends) (declarator_there limit typed sc outer ts ends) (declarator_within limit one (sorts.Named typed) (sc ∷ outer) ts))

-- its name is declared behind it
pub few_declared : (name : Option Name) (is_type : Bool) (scope : Blocks) → FewTypes scope → FewTypes (declared_maybe name is_type scope)
few_declared None is_type scope few = few
few_declared (Some n) is_type scope few = few_changed (changes.Declare n is_type) scope few

pub named_read_stops : (limit : ℕ) (q : t.SpecifiersTree) (sc : Scope) (outer : Blocks) (unit us ts : List Token) → 1 ≤ limit → FewTypes (sc ∷ outer) → EndsIn ts
    → Stop limit 0 1 0 (Continues (named_phrase (has_type q) sc) declarator_depth) (IsTaken (named_phrase (has_type q) sc) (λ d. declared (is_typedef q) sc d ∷ outer) declarator_depth limit) (λ unit us ys. named_read limit (naming_of q) (sc ∷ outer) ys) unit us ts
named_read_stops limit q sc outer unit us ts one few ends = stop_seq limit 0 0 1 0 1 0 0 (Continues (named_phrase (has_type q) sc) declarator_depth) (Continues (named_phrase (has_type q) sc) declarator_depth) (IsTaken (named_phrase (has_type q) sc) (λ d. after_declarator sc d ∷ outer) declarator_depth limit) (IsTaken (named_phrase (has_type q) sc) (λ d. declared (is_typedef q) sc d ∷ outer) declarator_depth limit)
    (λ unit us ys. declarator_read limit (sorts.Named (has_type q)) (sc ∷ outer) ys) (λ unit us d. Ok (d.0, d.1, declared_maybe (declared_name d.0) (is_typedef q) d.2)) unit us ts (omega arith) (omega arith) (omega arith) ends (named_stops limit (has_type q) sc outer unit us ts one few ends)
    (λ n xs low k. k)
    (λ d scope xs rest h are left short. stop_done limit 0 0 (λ n ys. Continues (named_phrase (has_type q) sc) declarator_depth n (xs ++ ys)) (λ e inner ys. IsTaken (named_phrase (has_type q) sc) (λ f. declared (is_typedef q) sc f ∷ outer) declarator_depth limit e inner (xs ++ ys)) d (declared_maybe (declared_name d) (is_typedef q) scope) unit us rest left
    (record { derives = nil_behind (named_phrase (has_type q) sc d) xs h.derives; scope_is = ap (declared_maybe (declared_name d) (is_typedef q)) h.scope_is ∙ declared_is (declared_name d) (is_typedef q) (after_declarator sc d) outer; within = h.within; few = few_declared (declared_name d) (is_typedef q) scope h.few }))
