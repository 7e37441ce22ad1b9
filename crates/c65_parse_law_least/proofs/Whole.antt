-- That a fault stands at the first token with which nothing goes on.
use Rattle.std.proofs.Common.{◌≡◌, ℕ, ◌≤◌, List, [], ◌∷◌, ◌++◌, true, refl, sym, ap, ◌∙◌, subst, append_assoc, inl, arith}
use Rattle.std.specs.Prelude.{Result, Ok, Err}
use Rattle.c65_base.specs.Answers.{Fault, ◌>>=◌}
use Rattle.c65_base.specs.declared.refusal.Pos.{Pos}
use Rattle.c65_scan.specs.declared.token.Token.{Token}
use Rattle.c65_scan.specs.declared.token.TokenKind.TheVariants as kinds
use Rattle.c65_tree.specs.Trees as t
use Rattle.c65_tree.specs.Depth.{expr_depth, specifiers_depth, declarator_depth}
use Rattle.c65_parse_trees.specs.Listings.{Listed, nothing_listed}
use Rattle.c65_parse_names.specs.Scopes.{Blocks}
use Rattle.c65_parse.specs.declared.frame.Sort.{Sort}
use Rattle.c65_parse.specs.declared.frame.Sort.TheVariants as sorts
use Rattle.c65_parse.specs.Frames.{operand, specifiers, declarator, Done, done_expr, done_specifiers, done_declarator, Held}
use Rattle.c65_parse.specs.Machine.{Reading, run}
use Rattle.c65_parse.specs.Reading.{Answer, as_expr, as_specifiers, as_declarator, expr_read, specifiers_read, declarator_read}
use Rattle.c65_parse_grammar.specs.Phrases.{Phrase, token, given}
use Rattle.c65_parse_grammar.specs.Parts.{level}
use Rattle.c65_parse_grammar.specs.Scopes.{Scope, after, after_specifiers, after_declarator}
use Rattle.c65_parse_grammar.specs.Expressions as g
use Rattle.c65_parse_grammar.specs.Statements.{head_specifiers}
use Rattle.c65_parse_grammar.specs.Readings.{Continues}
use Rattle.c65_parse_law_sound.specs.Derived.{IsRead}
use Rattle.c65_parse_law_sound.specs.Derived as derived
use Rattle.c65_parse_law_sound.proofs.Derivations.{exprs_are_derived, specifiers_are_derived, declarators_are_derived}
use Rattle.c65_parse_law_sound.proofs.Got.{EndsIn}
use Rattle.c65_parse_law_sound.proofs.Phrases.{true_false}
use Rattle.c65_parse_law_sound.proofs.Within.{exprs_are_within, specifiers_are_within, declarators_are_within}
use Rattle.c65_parse_law_trees.specs.Read.{EndsDeclarator}
use Rattle.c65_parse_law_trees.specs.Tokens.{sort_of}
use Rattle.c65_parse_law_trees.proofs.Top.{exprs_are_read, specifiers_are_read, declarators_are_read}
use Rattle.c65_parse_law_faults.proofs.Whole.{ends_in}
use Rattle.c65_parse_law_least.specs.Viable.{FewTypes, ExprsStop, SpecifiersStop, DeclaratorsStop}
use Rattle.c65_parse_law_least.proofs.Places.{of_expr, of_specifiers, of_declarator, Same, place_of}
use Rattle.c65_parse_law_least.proofs.Closings.{Some}
use Rattle.c65_parse_law_least.proofs.Stopping.{Goes, Outcome, outcome}
use Rattle.c65_parse_law_least.proofs.Halting.{Halts, stops_by, continues_as}

abbrev but_last : List Token → List Token
but_last [] = []
but_last (x ∷ []) = []
but_last (x ∷ y ∷ xs) = x ∷ but_last (y ∷ xs)

last_behind : (xs : List Token) (x : Token) → but_last (xs ++ x ∷ []) ≡ xs
last_behind [] x = refl
last_behind (y ∷ []) x = refl
last_behind (y ∷ z ∷ xs) x = ap (λ ts. y ∷ ts) (last_behind (z ∷ xs) x)

-- what stands before the same last token
pub same_front : (xs ys front others : List Token) (x next : Token) → xs ++ (ys ++ x ∷ []) ≡ front ++ next ∷ others → x ∷ [] ≡ next ∷ others → front ≡ xs ++ ys
same_front xs ys front others x next are rest = sym (last_behind front x) ∙ (ap but_last (ap (λ ts. front ++ ts) rest ∙ (sym are ∙ sym (append_assoc xs ys (x ∷ [])))) ∙ last_behind (xs ++ ys) x)

abbrev pub head_or : Token → List Token → Token
head_or d [] = d
head_or d (x ∷ xs) = x

pub err_not : {A : Type 0} (a : A) (e : Fault) → Ok a ≡ Err e → ⊥
err_not a e h = cc

-- the tokens before an end that were read as a tree
pub continues : (limit : ℕ) → {Tree : Type 0} (phrase : Pos → Tree → Phrase) (behind : Tree → Scope) (outer : Blocks) (depth : Tree → ℕ) (l : Pos) (before more : List Token) (tree : Tree) (later : Blocks)
    → IsRead phrase behind outer (before ++ (more ++ token kinds.End l ∷ [])) tree (token kinds.End l ∷ []) later → depth tree ≤ limit → Continues (phrase l) depth limit before
continues limit phrase behind outer depth l before more tree later h within =
    let last : Token = token kinds.End l in
    let front = same_front before more h.front h.others last h.next (h.tokens_are ∙ ap (λ ts. h.front ++ ts) h.rest_is) h.rest_is in
    let place : h.next.pos ≡ l = sym (ap (λ ts. (head_or last ts).pos) h.rest_is) in
    record { tree = tree; more = more; derives = subst (λ p. phrase p tree (before ++ more)) place (subst (phrase h.next.pos tree) front h.derives); within = within }

-- where each tree has a token behind it with which it is read
pub none : (limit : ℕ) → {A Tree : Type 0} (read : List Token → Result A Fault) (phrase : Tree → Phrase) (depth : Tree → ℕ) (fault : Fault) (before : List Token) (next : Token) → ((more : List Token) → read (before ++ next ∷ more) ≡ Err fault)
    → ((ts : List Token) (tree : Tree) → phrase tree ts → depth tree ≤ limit → (behind : List Token) × (a : A) × (read (ts ++ behind) ≡ Ok a)) → Continues phrase depth limit (before ++ next ∷ []) → ⊥
none limit read phrase depth fault before next again takes k =
    let it = takes ((before ++ next ∷ []) ++ k.more) k.tree k.derives k.within in
    err_not it.1 fault (sym it.2 ∙ (ap read (append_assoc (before ++ next ∷ []) k.more it.0 ∙ append_assoc before (next ∷ []) (k.more ++ it.0)) ∙ again (k.more ++ it.0)))

-- expressions
an_expr : (d : Done) → Same of_expr (place_of d) → (e : t.ExprTree) × (d ≡ done_expr e)
an_expr (done_expr e) h = (e, refl)
an_expr (done_specifiers q) h = absurd h
an_expr (done_declarator d) h = absurd h

abbrev ExprGoes : (limit : ℕ) → ℕ → Scope → List Token → Type 0
ExprGoes limit least sc = Continues (λ e. given (least ≤ level e) (g.expr sc e)) expr_depth limit

expr_continues : (limit least : ℕ) (sc : Scope) (outer : Blocks) (l : Pos) (before : List Token) → least ≤ 13 → Goes limit of_expr l least (sc ∷ outer) [] operand before → ExprGoes limit least sc before
expr_continues limit least sc outer l before low h =
    let it = an_expr h.tree h.sort in
    let all = before ++ (h.more ++ token kinds.End l ∷ []) in
    let read : expr_read limit least (sc ∷ outer) all ≡ Ok (it.0, token kinds.End l ∷ [], h.behind) = ap (λ r. r >>= as_expr) (h.are ∙ ap (λ d. Ok (d, token kinds.End l ∷ [], h.behind)) it.1) in
    continues limit (λ l e. given (least ≤ level e) (g.expr sc e)) (after sc) outer expr_depth l before h.more it.0 h.behind (exprs_are_derived limit least sc outer all it.0 (token kinds.End l ∷ []) h.behind low read) (exprs_are_within limit least (sc ∷ outer) all it.0 (token kinds.End l ∷ []) h.behind read)

abbrev pub ExprHalts : (limit : ℕ) → ℕ → Scope → Blocks → List Token → Answer t.ExprTree → Type 0
ExprHalts limit least sc outer = Halts limit (λ e. given (least ≤ level e) (g.expr sc e)) expr_depth (expr_read limit least (sc ∷ outer))

expr_halts : (limit least : ℕ) (sc : Scope) (outer : Blocks) (l : Pos) (ts : List Token) (r : Reading) → least ≤ 13 → Outcome limit of_expr l least (sc ∷ outer) [] operand ts r → ExprHalts limit least sc outer ts (r >>= as_expr)
expr_halts limit least sc outer l ts (Ok (done_expr e, rest, behind)) low h = h.few
expr_halts limit least sc outer l ts (Ok (done_specifiers q, rest, behind)) low h = absurd h.kind
expr_halts limit least sc outer l ts (Ok (done_declarator d, rest, behind)) low h = absurd h.kind
expr_halts limit least sc outer l ts (Err fault) low h = record {
  before = h.before;
  next = h.next;
  others = h.others;
  tokens_are = h.tokens_are;
  fault_is = h.fault_is;
  goes_on = expr_continues limit least sc outer l h.before low h.goes;
  none = none limit (expr_read limit least (sc ∷ outer)) (λ e. given (least ≤ level e) (g.expr sc e)) expr_depth fault h.before h.next (λ more. ap (λ r. r >>= as_expr) (h.again more))
      (λ ts tree p deep. (token kinds.End l ∷ [], _, exprs_are_read limit least sc outer tree ts (token kinds.End l) [] p.1 p.0 deep low (inl refl)));
  deeper = λ k. let d = h.deeper k in (d.0, d.1, expr_continues d.0 least sc outer l (h.before ++ h.next ∷ []) low d.2);
  again = λ more. ap (λ r. r >>= as_expr) (h.again more);
}

pub expr_outcome : (limit least : ℕ) (sc : Scope) (outer : Blocks) (tokens : List Token) → 1 ≤ limit → least ≤ 13 → FewTypes (sc ∷ outer) → EndsIn tokens → ExprHalts limit least sc outer tokens (expr_read limit least (sc ∷ outer) tokens)
expr_outcome limit least sc outer tokens some low few ends =
    let l : Pos = record { file = 0; line = 1 } in
    expr_halts limit least sc outer l tokens (run limit least (sc ∷ outer) [] operand tokens) low (outcome limit of_expr l least tokens (sc ∷ outer) [] operand few (omega (arith, some), tt) ends)

pub exprs_stop : ExprsStop
exprs_stop limit least sc outer tokens fault some low few ends e = stops_by limit (λ e. given (least ≤ level e) (g.expr sc e)) expr_depth (expr_read limit least (sc ∷ outer)) tokens fault (expr_read limit least (sc ∷ outer) tokens) (expr_outcome limit least sc outer tokens some low few (ends_in tokens ends)) e

-- specifiers
abbrev tree_alone : Listed × List Token × Blocks → Answer t.SpecifiersTree
tree_alone q = Ok (q.0.tree, q.1, q.2)

pub some_specifiers : (d : Done) → Same of_specifiers (place_of d) → (q : Listed) × (d ≡ done_specifiers q)
some_specifiers (done_expr e) h = absurd h
some_specifiers (done_specifiers q) h = (q, refl)
some_specifiers (done_declarator d) h = absurd h

-- some specifiers, and those of a head
some_of_head : (sc : Scope) (l : Pos) (q : t.SpecifiersTree) (ts : List Token) → 1 ≤ specifiers_depth q → head_specifiers sc l q ts → g.specifiers sc true q ts
some_of_head sc l (t.specifiers k t.no_specifiers) ts deep h = absurd (omega (arith, deep))
some_of_head sc l (t.specifiers k (t.and_specifier qs q)) ts deep h = h

head_of_some : (sc : Scope) (l : Pos) (q : t.SpecifiersTree) (ts : List Token) → g.specifiers sc true q ts → head_specifiers sc l q ts
head_of_some sc l (t.specifiers k t.no_specifiers) ts h = absurd (true_false h.0.0)
head_of_some sc l (t.specifiers k (t.and_specifier qs q)) ts h = h

some_read : (sc : Scope) (outer : Blocks) (tokens : List Token) (q : t.SpecifiersTree) (rest : List Token) (scope : Blocks) → 1 ≤ specifiers_depth q → IsRead (head_specifiers sc) (after_specifiers sc) outer tokens q rest scope → IsRead (λ l. g.specifiers sc true) (after_specifiers sc) outer tokens q rest scope
some_read sc outer tokens q rest scope deep h = record { front = h.front; next = h.next; others = h.others; rest_is = h.rest_is; tokens_are = h.tokens_are; derives = some_of_head sc h.next.pos q h.front deep h.derives; scope_is = h.scope_is }

specifiers_continue : (limit : ℕ) (sc : Scope) (outer : Blocks) (l : Pos) (before : List Token) → 1 ≤ limit → Goes limit of_specifiers l 0 (sc ∷ outer) [] (specifiers (nothing_listed true)) before → Continues (g.specifiers sc true) specifiers_depth limit before
specifiers_continue limit sc outer l before some h =
    let it = some_specifiers h.tree h.sort in
    let last : List Token = token kinds.End l ∷ [] in
    let all = before ++ (h.more ++ last) in
    let read : specifiers_read limit (sc ∷ outer) all ≡ Ok (it.0.tree, last, h.behind) = ap (λ r. (r >>= as_specifiers) >>= tree_alone) (h.are ∙ ap (λ d. Ok (d, last, h.behind)) it.1) in
    continues limit (λ l. g.specifiers sc true) (after_specifiers sc) outer specifiers_depth l before h.more it.0.tree h.behind (some_read sc outer all it.0.tree last h.behind (subst Some it.1 h.some) (specifiers_are_derived limit sc outer all it.0.tree last h.behind read)) (specifiers_are_within limit some (sc ∷ outer) all it.0.tree last h.behind read)

abbrev pub SpecifiersHalt : (limit : ℕ) → Scope → Blocks → Pos → List Token → Answer t.SpecifiersTree → Type 0
SpecifiersHalt limit sc outer l = Halts limit (head_specifiers sc l) specifiers_depth (specifiers_read limit (sc ∷ outer))

abbrev pub SomeHalt : (limit : ℕ) → Scope → Blocks → List Token → Answer t.SpecifiersTree → Type 0
SomeHalt limit sc outer = Halts limit (g.specifiers sc true) specifiers_depth (specifiers_read limit (sc ∷ outer))

specifiers_halt : (limit : ℕ) (sc : Scope) (outer : Blocks) (l : Pos) (ts : List Token) (r : Reading) → 1 ≤ limit → Outcome limit of_specifiers l 0 (sc ∷ outer) [] (specifiers (nothing_listed true)) ts r → SomeHalt limit sc outer ts ((r >>= as_specifiers) >>= tree_alone)
specifiers_halt limit sc outer l ts (Ok (done_expr e, rest, behind)) some h = absurd h.kind
specifiers_halt limit sc outer l ts (Ok (done_specifiers q, rest, behind)) some h = h.few
specifiers_halt limit sc outer l ts (Ok (done_declarator d, rest, behind)) some h = absurd h.kind
specifiers_halt limit sc outer l ts (Err fault) some h = record {
  before = h.before;
  next = h.next;
  others = h.others;
  tokens_are = h.tokens_are;
  fault_is = h.fault_is;
  goes_on = specifiers_continue limit sc outer l h.before some h.goes;
  none = none limit (specifiers_read limit (sc ∷ outer)) (g.specifiers sc true) specifiers_depth fault h.before h.next (λ more. ap (λ r. (r >>= as_specifiers) >>= tree_alone) (h.again more))
      (λ ts tree p deep. (token kinds.End l ∷ [], _, specifiers_are_read limit sc outer tree ts (token kinds.End l) [] (head_of_some sc l tree ts p) deep tt));
  deeper = λ k. let d = h.deeper k in let up = d.1 in (d.0, up, specifiers_continue d.0 sc outer l (h.before ++ h.next ∷ []) (omega (arith, some, up)) d.2);
  again = λ more. ap (λ r. (r >>= as_specifiers) >>= tree_alone) (h.again more);
}

-- none may stand before a token at this place
head_halts : (limit : ℕ) (sc : Scope) (outer : Blocks) (l : Pos) (ts : List Token) (r : Answer t.SpecifiersTree) → SomeHalt limit sc outer ts r → SpecifiersHalt limit sc outer l ts r
head_halts limit sc outer l ts (Ok (q, rest, behind)) h = h
head_halts limit sc outer l ts (Err fault) h = record {
  before = h.before;
  next = h.next;
  others = h.others;
  tokens_are = h.tokens_are;
  fault_is = h.fault_is;
  goes_on = continues_as limit (g.specifiers sc true) (head_specifiers sc l) specifiers_depth h.before (head_of_some sc l) h.goes_on;
  none = none limit (specifiers_read limit (sc ∷ outer)) (head_specifiers sc l) specifiers_depth fault h.before h.next h.again (λ ts tree p deep. (token kinds.End l ∷ [], _, specifiers_are_read limit sc outer tree ts (token kinds.End l) [] p deep tt));
  deeper = λ k. let d = h.deeper k in (d.0, d.1, continues_as d.0 (g.specifiers sc true) (head_specifiers sc l) specifiers_depth (h.before ++ h.next ∷ []) (head_of_some sc l) d.2);
  again = h.again;
}

-- some specifiers (C90 6.5): the tokens before a fault are always those of some
pub some_specifiers_outcome : (limit : ℕ) (sc : Scope) (outer : Blocks) (tokens : List Token) → 1 ≤ limit → FewTypes (sc ∷ outer) → EndsIn tokens → SomeHalt limit sc outer tokens (specifiers_read limit (sc ∷ outer) tokens)
some_specifiers_outcome limit sc outer tokens some few ends =
    let l : Pos = record { file = 0; line = 1 } in
    let held : Held = specifiers (nothing_listed true) in
    specifiers_halt limit sc outer l tokens (run limit 0 (sc ∷ outer) [] held tokens) some (outcome limit of_specifiers l 0 tokens (sc ∷ outer) [] held few tt ends)

-- specifiers or none, before a token at any place
pub specifiers_outcome : (limit : ℕ) (sc : Scope) (outer : Blocks) (l : Pos) (tokens : List Token) → 1 ≤ limit → FewTypes (sc ∷ outer) → EndsIn tokens → SpecifiersHalt limit sc outer l tokens (specifiers_read limit (sc ∷ outer) tokens)
specifiers_outcome limit sc outer l tokens some few ends = head_halts limit sc outer l tokens (specifiers_read limit (sc ∷ outer) tokens) (some_specifiers_outcome limit sc outer tokens some few ends)

pub specifiers_stop : SpecifiersStop
specifiers_stop limit sc outer l tokens fault some few ends e = stops_by limit (head_specifiers sc l) specifiers_depth (specifiers_read limit (sc ∷ outer)) tokens fault (specifiers_read limit (sc ∷ outer) tokens) (specifiers_outcome limit sc outer l tokens some few (ends_in tokens ends)) e

-- declarators
pub a_declarator : (d : Done) → Same of_declarator (place_of d) → (e : t.DeclaratorTree) × (d ≡ done_declarator e)
a_declarator (done_expr e) h = absurd h
a_declarator (done_specifiers q) h = absurd h
a_declarator (done_declarator d) h = (d, refl)

ends_there : (sort : Sort) (l : Pos) → EndsDeclarator (g.may_lack (sort_of sort)) l (token kinds.End l)
ends_there (sorts.Named typed) l = tt
ends_there (sorts.Param typed) l = (tt, tt, refl)
ends_there (sorts.Member typed) l = tt
ends_there sorts.Abstract l = (tt, tt, refl)

same_sort : (sort : Sort) → derived.sort_of sort ≡ sort_of sort
same_sort (sorts.Named typed) = refl
same_sort (sorts.Param typed) = refl
same_sort (sorts.Member typed) = refl
same_sort sorts.Abstract = refl

declarator_continues : (limit : ℕ) (sort : Sort) (sc : Scope) (outer : Blocks) (l : Pos) (before : List Token) → 1 ≤ limit → Goes limit of_declarator l 0 (sc ∷ outer) [] (declarator sort) before → Continues (g.declarator (sort_of sort) sc l) declarator_depth limit before
declarator_continues limit sort sc outer l before some h =
    let it = a_declarator h.tree h.sort in
    let all = before ++ (h.more ++ token kinds.End l ∷ []) in
    let read : declarator_read limit sort (sc ∷ outer) all ≡ Ok (it.0, token kinds.End l ∷ [], h.behind) = ap (λ r. r >>= as_declarator) (h.are ∙ ap (λ d. Ok (d, token kinds.End l ∷ [], h.behind)) it.1) in
    subst (λ x. Continues (g.declarator x sc l) declarator_depth limit before) (same_sort sort) (continues limit (g.declarator (derived.sort_of sort) sc) (after_declarator sc) outer declarator_depth l before h.more it.0 h.behind (declarators_are_derived limit sort sc outer all it.0 (token kinds.End l ∷ []) h.behind read) (declarators_are_within limit some sort (sc ∷ outer) all it.0 (token kinds.End l ∷ []) h.behind read))

abbrev pub DeclaratorHalts : (limit : ℕ) → Sort → Scope → Blocks → Pos → List Token → Answer t.DeclaratorTree → Type 0
DeclaratorHalts limit sort sc outer l = Halts limit (g.declarator (sort_of sort) sc l) declarator_depth (declarator_read limit sort (sc ∷ outer))

declarator_halts : (limit : ℕ) (sort : Sort) (sc : Scope) (outer : Blocks) (l : Pos) (ts : List Token) (r : Reading) → 1 ≤ limit → Outcome limit of_declarator l 0 (sc ∷ outer) [] (declarator sort) ts r → DeclaratorHalts limit sort sc outer l ts (r >>= as_declarator)
declarator_halts limit sort sc outer l ts (Ok (done_expr e, rest, behind)) some h = absurd h.kind
declarator_halts limit sort sc outer l ts (Ok (done_specifiers q, rest, behind)) some h = absurd h.kind
declarator_halts limit sort sc outer l ts (Ok (done_declarator d, rest, behind)) some h = h.few
declarator_halts limit sort sc outer l ts (Err fault) some h = record {
  before = h.before;
  next = h.next;
  others = h.others;
  tokens_are = h.tokens_are;
  fault_is = h.fault_is;
  goes_on = declarator_continues limit sort sc outer l h.before some h.goes;
  none = none limit (declarator_read limit sort (sc ∷ outer)) (g.declarator (sort_of sort) sc l) declarator_depth fault h.before h.next (λ more. ap (λ r. r >>= as_declarator) (h.again more))
      (λ ts tree p deep. (token kinds.End l ∷ [], _, declarators_are_read limit sort sc outer l tree ts (token kinds.End l) [] p deep (ends_there sort l)));
  deeper = λ k. let d = h.deeper k in let up = d.1 in (d.0, up, declarator_continues d.0 sort sc outer l (h.before ++ h.next ∷ []) (omega (arith, some, up)) d.2);
  again = λ more. ap (λ r. r >>= as_declarator) (h.again more);
}

pub declarator_outcome : (limit : ℕ) (sort : Sort) (sc : Scope) (outer : Blocks) (l : Pos) (tokens : List Token) → 1 ≤ limit → FewTypes (sc ∷ outer) → EndsIn tokens → DeclaratorHalts limit sort sc outer l tokens (declarator_read limit sort (sc ∷ outer) tokens)
declarator_outcome limit sort sc outer l tokens some few ends = declarator_halts limit sort sc outer l tokens (run limit 0 (sc ∷ outer) [] (declarator sort) tokens) some (outcome limit of_declarator l 0 tokens (sc ∷ outer) [] (declarator sort) few tt ends)

pub declarators_stop : DeclaratorsStop
declarators_stop limit sort sc outer l tokens fault some few ends e = stops_by limit (g.declarator (sort_of sort) sc l) declarator_depth (declarator_read limit sort (sc ∷ outer)) tokens fault (declarator_read limit sort (sc ∷ outer) tokens) (declarator_outcome limit sort sc outer l tokens some few (ends_in tokens ends)) e
