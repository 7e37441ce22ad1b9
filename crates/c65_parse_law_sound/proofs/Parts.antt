-- The readings of expressions, specifiers and declarators in a unit.
use Rattle.std.proofs.Common.{◌≡◌, ℕ, ◌≤◌, List, [], ◌∷◌, ◌++◌, Bool, false, refl, sym, ap, ◌∙◌, subst, arith}
use Rattle.std.specs.Prelude.{Ok, Err, Option, None, Some}
use Rattle.c65_base.specs.Answers.{◌>>=◌}
use Rattle.c65_base.specs.declared.names.Name.{Name}
use Rattle.c65_base.specs.declared.refusal.Pos.{Pos}
use Rattle.c65_scan.specs.declared.token.Punct.TheVariants as puncts
use Rattle.c65_scan.specs.declared.token.Token.{Token}
use Rattle.c65_tree.specs.Trees as t
use Rattle.c65_parse_names.specs.Scopes.{Blocks}
use Rattle.c65_parse.specs.declared.frame.Sort.TheVariants as sorts
use Rattle.c65_parse.specs.Reading.{Answer, token_at, expr_read, specifiers_read, declarator_read}
use Rattle.c65_parse_frames.specs.declared.sign.Mark.{Mark}
use Rattle.c65_parse_frames.specs.declared.sign.Mark.TheVariants as marks
use Rattle.c65_parse_frames.specs.declared.sign.Sign.TheVariants as signs
use Rattle.c65_parse_frames.specs.Signs.{is_mark}
use Rattle.c65_decl.specs.Here.{is_here, pos_here, expected}
use Rattle.c65_decl.specs.Expressions.{test_read, case_read, ended_read, optional_read}
use Rattle.c65_decl.specs.Declaring.{naming_of, declared_maybe, named_read}
use Rattle.c65_parse_grammar.specs.Phrases.{Phrase, ◌▸◌, given, some_mark}
use Rattle.c65_parse_grammar.specs.Parts.{level, declarator_start, declared_name, has_type, is_typedef}
use Rattle.c65_parse_grammar.specs.Scopes.{Scope, after, after_specifiers, after_declarator, after_option, declare_maybe, declared}
use Rattle.c65_parse_grammar.specs.Expressions as g
use Rattle.c65_parse_grammar.specs.Statements.{head_specifiers, optional_expr, test}
use Rattle.c65_parse_law_sound.specs.Derived.{IsRead}
use Rattle.c65_parse_law_sound.proofs.Declarators.{any_place}
use Rattle.c65_parse_law_sound.proofs.Derivations.{exprs_are_derived, specifiers_are_derived, declarators_are_derived}
use Rattle.c65_parse_law_sound.proofs.Got.{EndsIn, ends_behind, Got, seq, weaken, got_if, seq_mark, mark_phrase, first_of_mark, is_mark_of, past}

first_there : (u : Token) (ts : List Token) → token_at (u ∷ ts) 0 ≡ u
first_there u [] = refl
first_there u (v ∷ ts) = refl

left_ends : {Tree : Type 0} (phrase : Pos → Tree → Phrase) (behind : Tree → Scope) (outer : Blocks) (ts : List Token) (a : Tree) (rest : List Token) (scope : Blocks) → EndsIn ts → IsRead phrase behind outer ts a rest scope → EndsIn rest
left_ends phrase behind outer ts a rest scope ends h =
    subst EndsIn (sym h.rest_is) (ends_behind h.front h.next h.others (subst EndsIn (h.tokens_are ∙ ap (λ xs. h.front ++ xs) h.rest_is) ends))

-- a law of readings, where what it says does not depend on the token behind
pub by_law : {Tree : Type 0} (phrase : Pos → Tree → Phrase) (there : Tree → Phrase) (behind : Tree → Scope) (outer : Blocks) (ts : List Token) (r : Answer Tree) → EndsIn ts
    → ((a : Tree) (rest : List Token) (scope : Blocks) → r ≡ Ok (a, rest, scope) → IsRead phrase behind outer ts a rest scope)
    → ((a : Tree) (xs : List Token) (u : Token) (us : List Token) → ts ≡ xs ++ u ∷ us → phrase u.pos a xs → there a xs)
    → Got there (λ a. behind a ∷ outer) ts r
by_law phrase there behind outer ts (Err e) ends f k = tt
by_law phrase there behind outer ts (Ok (a, rest, scope)) ends f k =
    let h = f a rest scope refl in
    record {
      front = h.front;
      tokens_are = h.tokens_are;
      ends = left_ends phrase behind outer ts a rest scope ends h;
      derives = k a h.front h.next h.others (h.tokens_are ∙ ap (λ xs. h.front ++ xs) h.rest_is) h.derives;
      scope_is = h.scope_is;
    }

pub expr_got : (limit : ℕ) (least : ℕ) (sc : Scope) (outer : Blocks) (ts : List Token) → least ≤ 13 → EndsIn ts → Got (λ e. given (least ≤ level e) (g.expr sc e)) (λ e. after sc e ∷ outer) ts (expr_read limit least (sc ∷ outer) ts)
expr_got limit least sc outer ts low ends = by_law _ _ (after sc) outer ts (expr_read limit least (sc ∷ outer) ts) ends (λ a rest scope e. exprs_are_derived limit least sc outer ts a rest scope low e) (λ a xs u us are p. p)

none_here : (sc : Scope) (q : t.SpecifiersTree) (xs : List Token) (u : Token) (us ts : List Token) → ts ≡ xs ++ u ∷ us → head_specifiers sc u.pos q xs → head_specifiers sc (pos_here ts) q xs
none_here sc (t.specifiers l t.no_specifiers) xs u us ts are p = (p.0 ∙ sym (ap (λ ys. (token_at ys 0).pos) (are ∙ ap (λ ys. ys ++ u ∷ us) p.1) ∙ ap (λ v. v.pos) (first_there u us)), p.1)
none_here sc (t.specifiers l (t.and_specifier qs q)) xs u us ts are p = p

pub specifiers_got : (limit : ℕ) (sc : Scope) (outer : Blocks) (ts : List Token) → EndsIn ts → Got (head_specifiers sc (pos_here ts)) (λ q. after_specifiers sc q ∷ outer) ts (specifiers_read limit (sc ∷ outer) ts)
specifiers_got limit sc outer ts ends = by_law (head_specifiers sc) (head_specifiers sc (pos_here ts)) (after_specifiers sc) outer ts (specifiers_read limit (sc ∷ outer) ts) ends (λ a rest scope e. specifiers_are_derived limit sc outer ts a rest scope e) (λ a xs u us are p. none_here sc a xs u us ts are p)

declarator_got : (limit : ℕ) (typed : Bool) (sc : Scope) (outer : Blocks) (ts : List Token) → EndsIn ts → Got (λ d. g.declarator (g.named typed) sc (declarator_start d) d) (λ d. after_declarator sc d ∷ outer) ts (declarator_read limit (sorts.Named typed) (sc ∷ outer) ts)
declarator_got limit typed sc outer ts ends = by_law (g.declarator (g.named typed) sc) _ (after_declarator sc) outer ts (declarator_read limit (sorts.Named typed) (sc ∷ outer) ts) ends (λ a rest scope e. declarators_are_derived limit (sorts.Named typed) sc outer ts a rest scope e) (λ a xs u us are p. any_place (g.named typed) sc a u.pos (declarator_start a) xs refl p)

pub declared_is : (n : Option Name) (is_type : Bool) (sc : Scope) (outer : Blocks) → declared_maybe n is_type (sc ∷ outer) ≡ declare_maybe n is_type sc ∷ outer
declared_is None is_type sc outer = refl
declared_is (Some n) is_type sc outer = refl

named_kept : (typed types : Bool) (sc : Scope) (outer : Blocks) (ts : List Token) (r : Answer t.DeclaratorTree) → Got (λ d. g.declarator (g.named typed) sc (declarator_start d) d) (λ d. after_declarator sc d ∷ outer) ts r → Got (λ d. g.declarator (g.named typed) sc (declarator_start d) d) (λ d. declared types sc d ∷ outer) ts (r >>= (λ d. Ok (d.0, d.1, declared_maybe (declared_name d.0) types d.2)))
named_kept typed types sc outer ts (Err e) h = tt
named_kept typed types sc outer ts (Ok (d, rest, scope)) h = record { front = h.front; tokens_are = h.tokens_are; ends = h.ends; derives = h.derives; scope_is = ap (declared_maybe (declared_name d) types) h.scope_is ∙ declared_is (declared_name d) types (after_declarator sc d) outer }

-- a declarator with a name, which is declared behind it
pub named_got : (limit : ℕ) (q : t.SpecifiersTree) (sc : Scope) (outer : Blocks) (ts : List Token) → EndsIn ts → Got (λ d. g.declarator (g.named (has_type q)) sc (declarator_start d) d) (λ d. declared (is_typedef q) sc d ∷ outer) ts (named_read limit (naming_of q) (sc ∷ outer) ts)
named_got limit q sc outer ts ends = named_kept (has_type q) (is_typedef q) sc outer ts (declarator_read limit (sorts.Named (has_type q)) (sc ∷ outer) ts) (declarator_got limit (has_type q) sc outer ts ends)

-- an expression and a mark
ended_by : (limit : ℕ) (least : ℕ) (mark : Mark) (sc : Scope) (outer : Blocks) (ts : List Token) → least ≤ 13 → is_mark mark signs.End ≡ false → EndsIn ts → Got (λ e. given (least ≤ level e) (g.expr sc e) ▸ mark_phrase mark) (λ e. after sc e ∷ outer) ts (expr_read limit least (sc ∷ outer) ts >>= (λ e. expected mark e.2 e.1 >>= (λ b. Ok (e.0, b.0, b.1))))
ended_by limit least mark sc outer ts low not ends = seq _ _ _ _ ts (expr_read limit least (sc ∷ outer) ts) _ (expr_got limit least sc outer ts low ends)
    (λ e xs rest are p left. seq_mark mark (λ f ys. (given (least ≤ level f) (g.expr sc f) ▸ mark_phrase mark) (xs ++ ys)) (λ f. after sc f ∷ outer) (after sc e ∷ outer) rest (λ b. Ok (e, b.0, b.1)) not left
    (λ tok behind m last. record { front = []; tokens_are = refl; ends = last; derives = (xs, tok ∷ [], refl, p, m); scope_is = refl }))

pub case_got : (limit : ℕ) (sc : Scope) (outer : Blocks) (ts : List Token) → EndsIn ts → Got (λ e. given (2 ≤ level e) (g.expr sc e) ▸ some_mark puncts.Colon) (λ e. after sc e ∷ outer) ts (case_read limit (sc ∷ outer) ts)
case_got limit sc outer ts ends = ended_by limit 2 marks.Colon sc outer ts (omega arith) refl ends

pub test_got : (limit : ℕ) (sc : Scope) (outer : Blocks) (ts : List Token) → EndsIn ts → Got (test sc) (λ e. after sc e ∷ outer) ts (test_read limit (sc ∷ outer) ts)
test_got limit sc outer ts ends = seq_mark marks.OpenParen (test sc) (λ e. after sc e ∷ outer) (sc ∷ outer) ts _ refl ends
    (λ tok rest m left. weaken _ _ _ _ rest _ (ended_by limit 0 marks.CloseParen sc outer rest (omega arith) refl left) (λ e xs p. (tok ∷ [], xs, refl, m, (p.0, p.1, p.2, p.3.1, p.4))) (λ e. refl))

ended_got : (limit : ℕ) (mark : Mark) (sc : Scope) (outer : Blocks) (ts : List Token) → is_mark mark signs.End ≡ false → EndsIn ts → Got (λ o. optional_expr sc o ▸ mark_phrase mark) (λ o. after_option sc o ∷ outer) ts (ended_read limit mark (sc ∷ outer) ts)
ended_got limit mark sc outer ts not ends = seq _ _ _ _ ts (expr_read limit 0 (sc ∷ outer) ts) _ (expr_got limit 0 sc outer ts (omega arith) ends)
    (λ e xs rest are p left. seq_mark mark (λ o ys. (optional_expr sc o ▸ mark_phrase mark) (xs ++ ys)) (λ o. after_option sc o ∷ outer) (after sc e ∷ outer) rest (λ b. Ok (Some e, b.0, b.1)) not left
    (λ tok behind m last. record { front = []; tokens_are = refl; ends = last; derives = (xs, tok ∷ [], refl, p.1, m); scope_is = refl }))

-- an expression or nothing, and a mark
pub optional_got : (limit : ℕ) (mark : Mark) (sc : Scope) (outer : Blocks) (ts : List Token) → is_mark mark signs.End ≡ false → EndsIn ts → Got (λ o. optional_expr sc o ▸ mark_phrase mark) (λ o. after_option sc o ∷ outer) ts (optional_read limit mark (sc ∷ outer) ts)
optional_got limit mark sc outer ts not ends = got_if _ _ ts (is_here mark ts) _ _
    (λ e. let first = first_of_mark mark ts not e ends in past _ _ ts first (λ r. Ok (None, r, sc ∷ outer)) (record { front = []; tokens_are = refl; ends = first.ends; derives = ([], first.tok ∷ [], refl, refl, is_mark_of mark ts first e); scope_is = refl }))
    (λ e. ended_got limit mark sc outer ts not ends)
