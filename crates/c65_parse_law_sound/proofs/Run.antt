-- A whole run.
use Rattle.std.proofs.Common.{◌≡◌, ℕ, ◌≤◌, List, [], ◌∷◌, ◌++◌, Bool, false, refl, sym, ap, subst, append_assoc, arith}
use Rattle.std.proofs.lemmas.List.{append-nil}
use Rattle.std.proofs.lemmas.Bool.{leb-true}
use Rattle.std.specs.Prelude.{nat_le, Ok, Err}
use Rattle.c65_base.specs.Answers.{large}
use Rattle.c65_base.specs.declared.refusal.Pos.{Pos}
use Rattle.c65_base.specs.declared.refusal.Size.TheVariants.{Depth}
use Rattle.c65_scan.specs.declared.token.Token.{Token}
use Rattle.c65_tree.specs.Trees as t
use Rattle.c65_parse_trees.specs.declared.sign.Sign.{Sign}
use Rattle.c65_parse_trees.specs.declared.sign.Sign.TheVariants as signs
use Rattle.c65_parse_trees.specs.Signs.{sign_of, begins_type}
use Rattle.c65_parse_trees.specs.Listings.{nothing_listed}
use Rattle.c65_parse_names.specs.Scopes.{Blocks, is_type_in}
use Rattle.c65_parse.specs.declared.frame.TypeUse.TheVariants as uses
use Rattle.c65_parse_trees.specs.declared.operator.Prefix.TheVariants as prefixes
use Rattle.c65_parse.specs.Frames.{Frame, Held, Next, go, stop, deep, fail, in_operation, in_prefix, in_paren, in_call, in_bound, in_type, in_group, operand, opened, sizeof_word, sizeof_opened, called, dotted, have_expr, specifiers, tag, tag_name, more_members, member, enumerator, enumerator_name, declarator, qualifiers, opened_declarator, have_declarator, opened_bound, opened_params, more_params, ellipsis, names, names_end}
use Rattle.c65_parse.specs.Expressions.{hole}
use Rattle.c65_parse.specs.Declarators.{declarator_step, declarator_end}
use Rattle.c65_parse.specs.Specifiers.{specifiers_step}
use Rattle.c65_parse.specs.declared.frame.Sort.{Sort}
use Rattle.c65_parse.specs.Machine.{opened_step, sizeof_step, sizeof_opened_step, called_step, dotted_step, opened_bound_step, step_by, step, changed, Reading, run, fault_at}
use Rattle.c65_parse_grammar.specs.Scopes.{Scope, after, after_declarator}
use Rattle.c65_parse_law_sound.proofs.Phrases.{regroup, ungroup, map_left, map_right, attach, is_one, is_some_one, before_nothing}
use Rattle.c65_parse_law_sound.proofs.Says.{Says, says}
use Rattle.c65_parse_law_sound.proofs.Places.{Start, scope_at, outer_at, NoGroup, Stand}
use Rattle.c65_parse_law_sound.proofs.States.{blocks_behind, Holds, Good, Ended}
use Rattle.c65_parse_law_sound.proofs.Operands.{good_if, hole_low, operand_good}
use Rattle.c65_parse_law_sound.proofs.Operations.{loosen}
use Rattle.c65_parse_law_sound.proofs.Exprs.{expr_good}
use Rattle.c65_parse_law_sound.proofs.Declarators.{Bare, declarator_good, end_good, closes_named}
use Rattle.c65_parse_law_sound.proofs.Specifiers.{listing_begun, specifiers_good, tag_good, tag_name_good, more_members_good, member_step_good, enumerator_needed, enumerator_name_good}
use Rattle.c65_parse_law_sound.proofs.Params.{qualifiers_good, opened_declarator_good, opened_params_good, more_params_good, ellipsis_good, names_good, names_end_good}

hole_is : (w : Start) (fs : List Frame) → Stand w fs → hole 0 fs ≤ 13 → hole w.least fs ≤ 13
hole_is w [] stand h = stand
hole_is w (f ∷ fs) stand h = h

cast_begun : (limit : ℕ) (w : Start) (l : Pos) (fs : List Frame) (front : List Token) (tok : Token) (scope : Blocks) (sign : Sign) → Says (scope_at w fs) sign tok.kind → hole 0 fs ≤ 13 → Holds w fs (opened l) scope front → Good w front tok scope (specifiers_step limit (nothing_listed false) (in_type l uses.Cast ∷ fs) tok.pos sign)
cast_begun limit w l fs front tok scope sign s low h = specifiers_good limit w (nothing_listed false) (in_type l uses.Cast ∷ fs) front tok scope sign s (record {
  scope_is = h.scope_is;
  stand = (hole_is w fs h.stand low, h.stand);
  fits = refl;
  reads = listing_begun w (in_type l uses.Cast ∷ fs) (scope_at w fs) false front h.reads;
})

opened_good : (limit : ℕ) (w : Start) (l : Pos) (fs : List Frame) (front : List Token) (tok : Token) (scope : Blocks) (sign : Sign) → Says (scope_at w fs) sign tok.kind → Holds w fs (opened l) scope front → Good w front tok scope (opened_step limit l fs tok sign)
unfolding opened_step
opened_good limit w l fs front tok scope sign s h = good_if w front tok scope (begins_type sign) _ _
    (λ e. good_if w front tok scope (nat_le (hole 0 fs) 13) _ fail (λ low. cast_begun limit w l fs front tok scope sign s (leb-true _ _ low) h) (λ low. tt))
    (λ e. operand_good limit w (in_paren l ∷ fs) front tok scope sign s (record { scope_is = h.scope_is; stand = (tt, h.stand); fits = tt; reads = h.reads }))

sizeof_operand : (w : Start) (l : Pos) (fs : List Frame) (front : List Token) (scope : Blocks) → Holds w fs (sizeof_word l) scope front → Holds w (in_operation (in_prefix l prefixes.Sizeof) ∷ fs) operand scope front
sizeof_operand w l fs front scope h = record { scope_is = h.scope_is; stand = (hole_low w fs h.stand, h.stand); fits = tt; reads = h.reads }

sizeof_good : (limit : ℕ) (w : Start) (l : Pos) (fs : List Frame) (front : List Token) (tok : Token) (scope : Blocks) (sign : Sign) → Says (scope_at w fs) sign tok.kind → Holds w fs (sizeof_word l) scope front → Good w front tok scope (sizeof_step limit l fs tok sign)
unfolding sizeof_step
sizeof_good limit w l fs front tok scope signs.Open s h = record { scope_is = h.scope_is; stand = h.stand; fits = tt; reads = attach _ _ h.reads (is_one tok _ s) }
sizeof_good limit w l fs front tok scope sign s h = operand_good limit w (in_operation (in_prefix l prefixes.Sizeof) ∷ fs) front tok scope sign s (sizeof_operand w l fs front scope h)

sizeof_opened_good : (limit : ℕ) (w : Start) (l k : Pos) (fs : List Frame) (front : List Token) (tok : Token) (scope : Blocks) (sign : Sign) → Says (scope_at w fs) sign tok.kind → Holds w fs (sizeof_opened l k) scope front → Good w front tok scope (sizeof_opened_step limit l k fs tok sign)
unfolding sizeof_opened_step
sizeof_opened_good limit w l k fs front tok scope sign s h = good_if w front tok scope (begins_type sign) _ _
    (λ e. specifiers_good limit w (nothing_listed false) (in_type l uses.Sizeof ∷ fs) front tok scope sign s (record {
      scope_is = h.scope_is;
      stand = (tt, h.stand);
      fits = refl;
      reads = listing_begun w (in_type l uses.Sizeof ∷ fs) (scope_at w fs) false front (map_right (λ xs p. map_right (λ ys q. (k, q)) p) h.reads);
    }))
    (λ e. operand_good limit w (in_paren k ∷ in_operation (in_prefix l prefixes.Sizeof) ∷ fs) front tok scope sign s (record { scope_is = h.scope_is; stand = (tt, (hole_low w fs h.stand, h.stand)); fits = tt; reads = ungroup h.reads }))

first_argument : (w : Start) (l : Pos) (e : t.ExprTree) (fs : List Frame) (front : List Token) (scope : Blocks) → Holds w fs (called l e) scope front → Holds w (in_call l e t.no_exprs ∷ fs) operand scope front
first_argument w l e fs front scope h = record { scope_is = h.scope_is; stand = (tt, h.stand); fits = tt; reads = map_right (λ xs p. (xs, [], sym (append-nil xs), p, ([], [], refl, refl, refl))) h.reads }

called_good : (limit : ℕ) (w : Start) (l : Pos) (e : t.ExprTree) (fs : List Frame) (front : List Token) (tok : Token) (scope : Blocks) (sign : Sign) → Says (after (scope_at w fs) e) sign tok.kind → Holds w fs (called l e) scope front → Good w front tok scope (called_step limit l e fs tok sign)
unfolding called_step
called_good limit w l e fs front tok scope signs.Close s h =
    let low = hole_low w fs h.stand in
    record {
      scope_is = h.scope_is;
      stand = h.stand;
      fits = tt;
      reads = map_right (λ xs p. (omega (arith, low), map_left (loosen 15 (scope_at w fs) e) (map_right (λ ys q. map_right (λ zs r. before_nothing r) q) (regroup p)))) (attach _ _ h.reads (is_some_one tok _ s));
    }
called_good limit w l e fs front tok scope sign s h = operand_good limit w (in_call l e t.no_exprs ∷ fs) front tok scope sign s (first_argument w l e fs front scope h)

dotted_good : (w : Start) (l : Pos) (arrow : Bool) (e : t.ExprTree) (fs : List Frame) (front : List Token) (tok : Token) (scope : Blocks) (sc : Scope) (sign : Sign) → Says sc sign tok.kind → Holds w fs (dotted l arrow e) scope front → Good w front tok scope (dotted_step l arrow e fs sign)
unfolding dotted_step
dotted_good w l arrow e fs front tok scope sc (signs.Name n is_type) s h =
    let low = hole_low w fs h.stand in
    record {
      scope_is = h.scope_is;
      stand = h.stand;
      fits = tt;
      reads = map_right (λ xs p. (omega (arith, low), map_left (loosen 15 (scope_at w fs) e) (regroup p))) (attach _ _ h.reads (is_some_one tok _ s.0));
    }
dotted_good w l arrow e fs front tok scope sc _ s h = tt

bound_needed : (w : Start) (l : Pos) (d : t.DeclaratorTree) (fs : List Frame) (front : List Token) (scope : Blocks) → Holds w fs (opened_bound l d) scope front → Holds w (in_bound l d ∷ fs) operand scope front
bound_needed w l d fs front scope h = record { scope_is = h.scope_is; stand = (h.fits, h.stand); fits = tt; reads = h.reads }

opened_bound_good : (limit : ℕ) (w : Start) (l : Pos) (d : t.DeclaratorTree) (fs : List Frame) (front : List Token) (tok : Token) (scope : Blocks) (sign : Sign) → Says (after_declarator (scope_at w fs) d) sign tok.kind → Holds w fs (opened_bound l d) scope front → Good w front tok scope (opened_bound_step limit l d fs tok sign)
unfolding opened_bound_step
opened_bound_good limit w l d fs front tok scope signs.CloseBracket s h = record {
  scope_is = h.scope_is;
  stand = h.stand;
  fits = (h.fits, refl, refl);
  reads = map_right (λ xs p k. map_right (λ ys q. map_right (λ zs r. before_nothing r) q) (regroup p)) (attach _ _ h.reads (is_some_one tok _ s));
}
opened_bound_good limit w l d fs front tok scope sign s h = operand_good limit w (in_bound l d ∷ fs) front tok scope sign s (bound_needed w l d fs front scope h)

no_group : (fs : List Frame) (sign : Sign) → NoGroup fs → Bare fs sign
no_group [] sign h = tt
no_group (in_group l ∷ fs) sign h = absurd h
no_group (f ∷ fs) sign h = tt

needed_good : (limit : ℕ) (w : Start) (sort : Sort) (fs : List Frame) (front : List Token) (tok : Token) (scope : Blocks) (sign : Sign) → Says (scope_at w fs) sign tok.kind → Holds w fs (declarator sort) scope front → Good w front tok scope (declarator_step limit sort fs tok.pos sign)
needed_good limit w sort fs front tok scope sign s h = declarator_good limit w fs sort front tok scope sign s (record {
  scope_is = h.scope_is;
  stand = h.stand;
  sort_is = h.fits.0;
  suits = λ n m. h.fits.1 tok.pos n;
  bare = λ e. no_group fs sign (h.fits.2 e);
  reads = h.reads;
})

whole_good : (limit : ℕ) (w : Start) (d : t.DeclaratorTree) (fs : List Frame) (front : List Token) (tok : Token) (scope : Blocks) (sc : Scope) (sign : Sign) → Says sc sign tok.kind → Holds w fs (have_declarator d) scope front → Good w front tok scope (declarator_end limit d fs tok.pos sign)
whole_good limit w d fs front tok scope sc sign s h = end_good limit w d fs front tok scope sc sign s h.fits.1 (record {
  scope_is = h.scope_is;
  stand = h.stand;
  suits = h.fits.0;
  closes = closes_named fs sign d h.fits.2;
  reads = map_right (λ xs p. p tok.pos) h.reads;
})

-- each step keeps what was read
step_by_good : (limit : ℕ) (w : Start) (fs : List Frame) (held : Held) (front : List Token) (tok : Token) (scope : Blocks) (sign : Sign) → Says (is_type_in (blocks_behind (scope_at w fs) (outer_at w fs) held)) sign tok.kind → Holds w fs held scope front → Good w front tok scope (step_by limit w.least fs held tok sign)
step_by_good limit w fs operand front tok scope sign s h = operand_good limit w fs front tok scope sign s h
step_by_good limit w fs (opened l) front tok scope sign s h = opened_good limit w l fs front tok scope sign s h
step_by_good limit w fs (sizeof_word l) front tok scope sign s h = sizeof_good limit w l fs front tok scope sign s h
step_by_good limit w fs (sizeof_opened l k) front tok scope sign s h = sizeof_opened_good limit w l k fs front tok scope sign s h
step_by_good limit w fs (called l e) front tok scope sign s h = called_good limit w l e fs front tok scope sign s h
step_by_good limit w fs (dotted l arrow e) front tok scope sign s h = dotted_good w l arrow e fs front tok scope (after (scope_at w fs) e) sign s h
step_by_good limit w fs (have_expr e) front tok scope sign s h = expr_good limit w e fs front tok scope (after (scope_at w fs) e) sign s h
step_by_good limit w fs (specifiers q) front tok scope sign s h = specifiers_good limit w q fs front tok scope sign s h
step_by_good limit w fs (tag part) front tok scope sign s h = tag_good limit w part fs front tok scope _ sign s h
step_by_good limit w fs (tag_name part n) front tok scope sign s h = tag_name_good limit w part n fs front tok scope sign s h
step_by_good limit w fs (more_members body) front tok scope sign s h = more_members_good limit w body fs front tok scope sign s h
step_by_good limit w fs (member part) front tok scope sign s h = member_step_good limit w part fs front tok scope sign s h
step_by_good limit w fs (enumerator part) front tok scope sign s h = enumerator_needed w part fs front tok scope _ sign s h
step_by_good limit w fs (enumerator_name part n l) front tok scope sign s h = enumerator_name_good limit w part n l fs front tok scope _ sign s h
step_by_good limit w fs (declarator sort) front tok scope sign s h = needed_good limit w sort fs front tok scope sign s h
step_by_good limit w fs (qualifiers l c v sort) front tok scope sign s h = qualifiers_good limit w l c v sort fs front tok scope sign s h
step_by_good limit w fs (opened_declarator l sort) front tok scope sign s h = opened_declarator_good limit w l sort fs front tok scope sign s h
step_by_good limit w fs (have_declarator d) front tok scope sign s h = whole_good limit w d fs front tok scope _ sign s h
step_by_good limit w fs (opened_bound l d) front tok scope sign s h = opened_bound_good limit w l d fs front tok scope sign s h
step_by_good limit w fs (opened_params l d) front tok scope sign s h = opened_params_good limit w l d fs front tok scope sign s h
step_by_good limit w fs (more_params part) front tok scope sign s h = more_params_good limit w part fs front tok scope sign s h
step_by_good limit w fs (ellipsis part) front tok scope sign s h = ellipsis_good w part fs front tok scope _ sign s h
step_by_good limit w fs (names part) front tok scope sign s h = names_good w part fs front tok scope sign s h
step_by_good limit w fs (names_end part) front tok scope sign s h = names_end_good w part fs front tok scope _ sign s h

pub step_good : (limit : ℕ) (w : Start) (fs : List Frame) (held : Held) (front : List Token) (tok : Token) (scope : Blocks) → Holds w fs held scope front → Good w front tok scope (step limit w.least scope fs held tok)
unfolding step
step_good limit w fs held front tok scope h = step_by_good limit w fs held front tok scope (sign_of (is_type_in scope) tok) (subst (λ b. Says (is_type_in b) (sign_of (is_type_in scope) tok) tok.kind) h.scope_is (says (is_type_in scope) tok.kind)) h

-- the tree that was read, where one was, of the tokens before and of some of these
abbrev pub Read : Start → List Token → List Token → Reading → Type 0
Read w done tokens (Err e) = Unit {0}
Read w done tokens (Ok (tree, rest, scope)) = (more : List Token) × (next : Token) × (others : List Token) × (rest ≡ next ∷ others) × (tokens ≡ more ++ rest) × Ended w tree next.pos scope (done ++ more)

read_more : (w : Start) (done : List Token) (tok : Token) (tokens : List Token) (r : Reading) → Read w (done ++ tok ∷ []) tokens r → Read w done (tok ∷ tokens) r
read_more w done tok tokens (Err e) h = tt
read_more w done tok tokens (Ok (tree, rest, scope)) h = (tok ∷ h.0, h.1, h.2, h.3, ap (λ ts. tok ∷ ts) h.4, subst (Ended w tree h.1.pos scope) (append_assoc done (tok ∷ []) h.0) h.5)

abbrev then_run : (limit : ℕ) → ℕ → Blocks → Token → List Token → Next → Reading
then_run limit least scope tok tokens n = elim n as (λ _. Reading) [ go gs next change ↦ run limit least (changed change scope) gs next tokens | stop done ↦ Ok (done, tok ∷ tokens, scope) | deep ↦ Err (large Depth 257) | fail ↦ Err (fault_at tok) ]

next_good : (limit : ℕ) (w : Start) (front : List Token) (tok : Token) (tokens : List Token) (scope : Blocks) (n : Next) → Good w front tok scope n
    → ((fs : List Frame) (held : Held) (scope : Blocks) → Holds w fs held scope (front ++ tok ∷ []) → Read w (front ++ tok ∷ []) tokens (run limit w.least scope fs held tokens))
    → Read w front (tok ∷ tokens) (then_run limit w.least scope tok tokens n)
next_good limit w front tok tokens scope (go fs held change) h f = read_more w front tok tokens (run limit w.least (changed change scope) fs held tokens) (f fs held (changed change scope) h)
next_good limit w front tok tokens scope (stop done) h f = ([], tok, tokens, refl, refl, subst (Ended w done tok.pos scope) (sym (append-nil front)) h)
next_good limit w front tok tokens scope deep h f = tt
next_good limit w front tok tokens scope fail h f = tt

pub run_good : (limit : ℕ) (w : Start) (tokens : List Token) (fs : List Frame) (held : Held) (scope : Blocks) (front : List Token) → Holds w fs held scope front → Read w front tokens (run limit w.least scope fs held tokens)
run_good limit w [] fs held scope front h = tt
run_good limit w (tok ∷ tokens) fs held scope front h = next_good limit w front tok tokens scope (step limit w.least scope fs held tok) (step_good limit w fs held front tok scope h) (λ gs next inner k. run_good limit w tokens gs next inner (front ++ tok ∷ []) k)

abbrev pub IsGo : Next → Type 0
IsGo (go fs held change) = Unit {0}
IsGo (stop done) = ⊥
IsGo deep = ⊥
IsGo fail = ⊥

first_good : (limit : ℕ) (w : Start) (tok : Token) (tokens : List Token) (scope : Blocks) (n : Next) → Good w [] tok scope n → IsGo n → Read w (tok ∷ []) tokens (then_run limit w.least scope tok tokens n)
first_good limit w tok tokens scope (go fs held change) h g = run_good limit w tokens fs held (changed change scope) (tok ∷ []) h
first_good limit w tok tokens scope (stop done) h g = absurd g
first_good limit w tok tokens scope deep h g = absurd g
first_good limit w tok tokens scope fail h g = absurd g

-- where the first token is taken, it is the tree's first
pub run_taken : (limit : ℕ) (w : Start) (tok : Token) (tokens : List Token) (fs : List Frame) (held : Held) (scope : Blocks) → Holds w fs held scope [] → IsGo (step limit w.least scope fs held tok) → Read w (tok ∷ []) tokens (run limit w.least scope fs held (tok ∷ tokens))
run_taken limit w tok tokens fs held scope h g = first_good limit w tok tokens scope (step limit w.least scope fs held tok) (step_good limit w fs held [] tok scope h) g
