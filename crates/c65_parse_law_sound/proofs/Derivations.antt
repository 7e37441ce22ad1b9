-- The laws, from a whole run.
use Rattle.std.proofs.Common.{◌≡◌, ℕ, ◌≤◌, List, [], ◌∷◌, ◌++◌, Bool, true, false, refl, sym, ap, ◌∙◌, subst, append_assoc, arith}
use Rattle.std.specs.Prelude.{Ok, Err, nat_eq, if◌then◌else◌}
use Rattle.c65_base.specs.Answers.{◌>>=◌}
use Rattle.c65_base.specs.declared.refusal.Pos.{Pos}
use Rattle.c65_scan.specs.declared.token.Token.{Token}
use Rattle.c65_tree.specs.Trees as t
use Rattle.c65_tree.specs.Depth.{specifiers_depth}
use Rattle.c65_parse_trees.specs.Listings.{Listed, nothing_listed}
use Rattle.c65_parse_names.specs.Scopes.{Blocks}
use Rattle.c65_parse.specs.declared.frame.Sort.{Sort}
use Rattle.c65_parse.specs.declared.frame.Sort.TheVariants as sorts
use Rattle.c65_parse.specs.Frames.{operand, specifiers, declarator, done_expr, done_specifiers, done_declarator}
use Rattle.c65_parse.specs.Machine.{Reading, fault_at}
use Rattle.c65_parse.specs.Reading.{Answer, as_expr, as_specifiers, as_declarator, expr_read, listed_read, specifiers_read, declarator_read, type_behind, type_read, token_at}
use Rattle.c65_parse_grammar.specs.Phrases.{Phrase, given}
use Rattle.c65_parse_grammar.specs.Parts.{level}
use Rattle.c65_parse_grammar.specs.Scopes.{Scope, after, after_specifiers, after_declarator, after_type}
use Rattle.c65_parse_grammar.specs.Expressions as g
use Rattle.c65_parse_grammar.specs.Statements.{head_specifiers}
use Rattle.c65_parse_law_sound.specs.Derived.{IsRead, sort_of, ExprsAreDerived, SpecifiersAreDerived, DeclaratorsAreDerived, TypesAreDerived}
use Rattle.c65_parse_law_sound.proofs.Places.{Start}
use Rattle.c65_parse_law_sound.proofs.States.{some_or_none}
use Rattle.c65_parse_law_sound.proofs.Operations.{loosen}
use Rattle.c65_parse_law_sound.proofs.Specifiers.{listing_begun}
use Rattle.c65_parse_law_sound.proofs.Run.{Read, run_good}
use Rattle.c65_parse_law_sound.proofs.Phrases.{true_false}

-- the answer is a tree that was read
abbrev pub Answered : {Tree : Type 0} → (Pos → Tree → Phrase) → (Tree → Scope) → Blocks → List Token → Answer Tree → Type 0
Answered phrase behind outer tokens (Ok (tree, rest, scope)) = IsRead phrase behind outer tokens tree rest scope
Answered phrase behind outer tokens (Err e) = Unit {0}

answered : {Tree : Type 0} (phrase : Pos → Tree → Phrase) (behind : Tree → Scope) (outer : Blocks) (tokens : List Token) (answer : Answer Tree) (tree : Tree) (rest : List Token) (scope : Blocks) → Answered phrase behind outer tokens answer → answer ≡ Ok (tree, rest, scope) → IsRead phrase behind outer tokens tree rest scope
answered phrase behind outer tokens answer tree rest scope h e = subst (Answered phrase behind outer tokens) e h

-- where an expression of at least this level is to be read
abbrev at_expr : ℕ → Scope → Blocks → Start
at_expr least sc outer = record { scope = sc; outer = outer; least = least; sort = g.abstract; storage = false }

expr_answered : (least : ℕ) (sc : Scope) (outer : Blocks) (tokens : List Token) (r : Reading) → Read (at_expr least sc outer) [] tokens r → Answered (λ l e. given (least ≤ level e) (g.expr sc e)) (after sc) outer tokens (r >>= as_expr)
expr_answered least sc outer tokens (Err e) h = tt
expr_answered least sc outer tokens (Ok (done_expr e, rest, scope)) h = record { front = h.0; next = h.1; others = h.2; rest_is = h.3; tokens_are = h.4; derives = loosen least sc e h.0 h.5.1; scope_is = h.5.0 }
expr_answered least sc outer tokens (Ok (done_specifiers q, rest, scope)) h = tt
expr_answered least sc outer tokens (Ok (done_declarator d, rest, scope)) h = tt

pub exprs_are_derived : ExprsAreDerived
exprs_are_derived limit least sc outer tokens tree rest scope low e =
    answered _ _ outer tokens (expr_read limit least (sc ∷ outer) tokens) tree rest scope (expr_answered least sc outer tokens _ (run_good limit (at_expr least sc outer) tokens [] operand (sc ∷ outer) [] (record { scope_is = refl; stand = low; fits = tt; reads = refl }))) e

-- where specifiers are to be read
abbrev pub at_specifiers : Bool → Scope → Blocks → Start
at_specifiers storage sc outer = record { scope = sc; outer = outer; least = 0; sort = g.abstract; storage = storage }

listed_answered : (storage : Bool) (sc : Scope) (outer : Blocks) (tokens : List Token) (r : Reading) → Read (at_specifiers storage sc outer) [] tokens r → Answered (λ l q. some_or_none sc storage l q.tree) (λ q. after_specifiers sc q.tree) outer tokens (r >>= as_specifiers)
listed_answered storage sc outer tokens (Err e) h = tt
listed_answered storage sc outer tokens (Ok (done_expr e, rest, scope)) h = tt
listed_answered storage sc outer tokens (Ok (done_specifiers q, rest, scope)) h = record { front = h.0; next = h.1; others = h.2; rest_is = h.3; tokens_are = h.4; derives = h.5.1; scope_is = h.5.0 }
listed_answered storage sc outer tokens (Ok (done_declarator d, rest, scope)) h = tt

listed_derived : (limit : ℕ) (storage : Bool) (sc : Scope) (outer : Blocks) (tokens : List Token) → Answered (λ l q. some_or_none sc storage l q.tree) (λ q. after_specifiers sc q.tree) outer tokens (listed_read limit storage (sc ∷ outer) tokens)
listed_derived limit storage sc outer tokens = listed_answered storage sc outer tokens _ (run_good limit (at_specifiers storage sc outer) tokens [] (specifiers (nothing_listed storage)) (sc ∷ outer) [] (record { scope_is = refl; stand = omega arith; fits = refl; reads = listing_begun (at_specifiers storage sc outer) [] sc storage [] refl }))

head_is : (sc : Scope) (l : Pos) (q : t.SpecifiersTree) (ts : List Token) → some_or_none sc true l q ts → head_specifiers sc l q ts
head_is sc l (t.specifiers k t.no_specifiers) ts h = h
head_is sc l (t.specifiers k (t.and_specifier qs q)) ts h = h

specifiers_answered : (sc : Scope) (outer : Blocks) (tokens : List Token) (r : Answer Listed) → Answered (λ l q. some_or_none sc true l q.tree) (λ q. after_specifiers sc q.tree) outer tokens r → Answered (head_specifiers sc) (after_specifiers sc) outer tokens (r >>= (λ q. Ok (q.0.tree, q.1, q.2)))
specifiers_answered sc outer tokens (Err e) h = tt
specifiers_answered sc outer tokens (Ok (q, rest, scope)) h = record { front = h.front; next = h.next; others = h.others; rest_is = h.rest_is; tokens_are = h.tokens_are; derives = head_is sc h.next.pos q.tree h.front h.derives; scope_is = h.scope_is }

pub specifiers_are_derived : SpecifiersAreDerived
specifiers_are_derived limit sc outer tokens tree rest scope e = answered _ _ outer tokens (specifiers_read limit (sc ∷ outer) tokens) tree rest scope (specifiers_answered sc outer tokens _ (listed_derived limit true sc outer tokens)) e

-- where a declarator is to be read
abbrev at_declarator : Sort → Scope → Blocks → Start
at_declarator sort sc outer = record { scope = sc; outer = outer; least = 0; sort = sort_of sort; storage = false }

declarator_answered : (sort : Sort) (sc : Scope) (outer : Blocks) (tokens : List Token) (r : Reading) → Read (at_declarator sort sc outer) [] tokens r → Answered (g.declarator (sort_of sort) sc) (after_declarator sc) outer tokens (r >>= as_declarator)
declarator_answered sort sc outer tokens (Err e) h = tt
declarator_answered sort sc outer tokens (Ok (done_expr e, rest, scope)) h = tt
declarator_answered sort sc outer tokens (Ok (done_specifiers q, rest, scope)) h = tt
declarator_answered sort sc outer tokens (Ok (done_declarator d, rest, scope)) h = record { front = h.0; next = h.1; others = h.2; rest_is = h.3; tokens_are = h.4; derives = h.5.1; scope_is = h.5.0 }

declarator_derived : (limit : ℕ) (sort : Sort) (sc : Scope) (outer : Blocks) (tokens : List Token) → Answered (g.declarator (sort_of sort) sc) (after_declarator sc) outer tokens (declarator_read limit sort (sc ∷ outer) tokens)
declarator_derived limit sort sc outer tokens = declarator_answered sort sc outer tokens _ (run_good limit (at_declarator sort sc outer) tokens [] (declarator sort) (sc ∷ outer) [] (record { scope_is = refl; stand = omega arith; fits = (refl, (λ l n. tt), (λ e. tt)); reads = refl }))

pub declarators_are_derived : DeclaratorsAreDerived
declarators_are_derived limit sort sc outer tokens tree rest scope e = answered _ _ outer tokens (declarator_read limit sort (sc ∷ outer) tokens) tree rest scope (declarator_derived limit sort sc outer tokens) e

some_there : (sc : Scope) (l : Pos) (q : t.SpecifiersTree) (ts : List Token) → nat_eq (specifiers_depth q) 0 ≡ false → some_or_none sc false l q ts → g.specifiers sc false q ts
some_there sc l (t.specifiers k t.no_specifiers) ts e h = absurd (true_false (e))
some_there sc l (t.specifiers k (t.and_specifier qs q)) ts e h = h

-- the declarator of a type name whose specifiers were read
abstract_answered : (sc : Scope) (outer : Blocks) (front : List Token) (tokens rest : List Token) (q : Listed) (r : Answer t.DeclaratorTree) → tokens ≡ front ++ rest → g.specifiers sc false q.tree front → Answered (g.declarator g.abstract (after_specifiers sc q.tree)) (after_declarator (after_specifiers sc q.tree)) outer rest r → Answered (g.type_name sc) (after_type sc) outer tokens (r >>= (λ d. Ok (t.type_name q.tree d.0, d.1, d.2)))
abstract_answered sc outer front tokens rest q (Err e) are is h = tt
abstract_answered sc outer front tokens rest q (Ok (d, left, scope)) are is h = record {
  front = front ++ h.front;
  next = h.next;
  others = h.others;
  rest_is = h.rest_is;
  tokens_are = are ∙ (ap (λ ts. front ++ ts) h.tokens_are ∙ sym (append_assoc front h.front left));
  derives = (front, h.front, refl, is, h.derives);
  scope_is = h.scope_is;
}

behind_answered : (limit : ℕ) (sc : Scope) (outer : Blocks) (tokens : List Token) (q : Listed) (rest : List Token) (scope : Blocks) (b : Bool) → nat_eq (specifiers_depth q.tree) 0 ≡ b → IsRead (λ l p. some_or_none sc false l p.tree) (λ p. after_specifiers sc p.tree) outer tokens q rest scope → Answered (g.type_name sc) (after_type sc) outer tokens (if b then Err (fault_at (token_at rest 0)) else (declarator_read limit sorts.Abstract scope rest >>= (λ d. Ok (t.type_name q.tree d.0, d.1, d.2))))
behind_answered limit sc outer tokens q rest scope true e h = tt
behind_answered limit sc outer tokens q rest scope false e h = subst (λ s. Answered (g.type_name sc) (after_type sc) outer tokens (declarator_read limit sorts.Abstract s rest >>= (λ d. Ok (t.type_name q.tree d.0, d.1, d.2)))) (sym h.scope_is) (abstract_answered sc outer h.front tokens rest q (declarator_read limit sorts.Abstract (after_specifiers sc q.tree ∷ outer) rest) h.tokens_are (some_there sc h.next.pos q.tree h.front e h.derives) (declarator_derived limit sorts.Abstract (after_specifiers sc q.tree) outer rest))

type_answered : (limit : ℕ) (sc : Scope) (outer : Blocks) (tokens : List Token) (r : Answer Listed) → Answered (λ l q. some_or_none sc false l q.tree) (λ q. after_specifiers sc q.tree) outer tokens r → Answered (g.type_name sc) (after_type sc) outer tokens (r >>= (λ q. type_behind limit q.0 q.2 q.1))
type_answered limit sc outer tokens (Err e) h = tt
type_answered limit sc outer tokens (Ok (q, rest, scope)) h = behind_answered limit sc outer tokens q rest scope (nat_eq (specifiers_depth q.tree) 0) refl h

pub types_are_derived : TypesAreDerived
types_are_derived limit sc outer tokens tree rest scope e = answered _ _ outer tokens (type_read limit (sc ∷ outer) tokens) tree rest scope (type_answered limit sc outer tokens _ (listed_derived limit false sc outer tokens)) e
