-- Behind an expression.
use Rattle.std.proofs.Common.{◌≡◌, ℕ, ◌≤◌, List, [], ◌∷◌, ◌++◌, Bool, true, false, refl, sym, ap, ◌∙◌, subst, arith}
use Rattle.std.proofs.lemmas.Bool.{leb-true}
use Rattle.std.specs.Prelude.{nat_le, Option, None, Some, if◌then◌else◌}
use Rattle.c65_base.specs.declared.names.Name.{Name}
use Rattle.c65_base.specs.declared.refusal.Pos.{Pos}
use Rattle.c65_scan.specs.declared.token.Punct.{Punct}
use Rattle.c65_scan.specs.declared.token.Punct.TheVariants as puncts
use Rattle.c65_scan.specs.declared.token.Token.{Token}
use Rattle.c65_tree.specs.Trees as t
use Rattle.c65_parse_trees.specs.declared.operator.Infix.{Infix}
use Rattle.c65_parse_trees.specs.declared.operator.Infix.TheVariants as infixes
use Rattle.c65_parse_trees.specs.declared.sign.Sign.{Sign}
use Rattle.c65_parse_trees.specs.declared.sign.Sign.TheVariants as signs
use Rattle.c65_parse_trees.specs.Levels.{level_of, left_of_infix, level_of_infix}
use Rattle.c65_parse_trees.specs.Signs.{left_of, rank_of, infix_of}
use Rattle.c65_parse_trees.specs.Listings.{MembersPart, EnumPart}
use Rattle.c65_parse_names.specs.Scopes.{Blocks, with_declared}
use Rattle.c65_parse.specs.Frames.{Operation, Frame, in_operation, in_paren, in_index, in_call, in_then, in_bound, in_width, in_value, in_right, operand, have_expr}
use Rattle.c65_parse.specs.Expressions.{hole, ends, plug, plug_frame, reduce, goes_on, extend_by, close_paren, close_index, close_call, close_then, close_bound, with_member, with_enumerator, close, extend, expr_step}
use Rattle.c65_parse_grammar.specs.Phrases.{Phrase, ◌▸◌, mark}
use Rattle.c65_parse_grammar.specs.Spellings.{assign_punct, comma_unless}
use Rattle.c65_parse_grammar.specs.Scopes.{Scope, after, after_exprs, after_declarator, after_maybe_declarator}
use Rattle.c65_parse_grammar.specs.Expressions as g
use Rattle.c65_parse_grammar.specs.Expressions.{is_no_expr, assign_mark}
use Rattle.c65_parse_law_sound.proofs.Phrases.{regroup, map_left, map_right, attach, before_nothing, is_one, is_some_one}
use Rattle.c65_parse_law_sound.proofs.Says.{Says, InfixSays, is_mark}
use Rattle.c65_parse_law_sound.proofs.Places.{Start, member_scope, enum_scope, scope_at, outer_at, tight, infix_mark, fronts}
use Rattle.c65_parse_law_sound.proofs.States.{Holds, Good}
use Rattle.c65_parse_law_sound.proofs.Operands.{good_within, good_if, hole_low}
use Rattle.c65_parse_law_sound.proofs.Operations.{loosen, built, rank_kept, plug_after}
use Rattle.c65_parse_law_sound.proofs.Members.{MemberRead, member_good, EnumeratorRead, enumerator_good}

-- an operation with its last operand
plug_holds : (w : Start) (o : Operation) (fs : List Frame) (e : t.ExprTree) (scope : Blocks) (front : List Token) → Holds w (in_operation o ∷ fs) (have_expr e) scope front → Holds w fs (have_expr (plug o e)) scope front
plug_holds w o fs e scope front h =
    let rank = h.stand.0 in
    let kept = rank_kept o e in
    record {
      scope_is = h.scope_is ∙ ap (λ b. b ∷ outer_at w fs) (plug_after o (scope_at w fs) e);
      stand = h.stand.1;
      fits = tt;
      reads = map_right (λ xs q. (omega (arith, rank, kept), built o (scope_at w fs) e xs q)) (regroup h.reads);
    }

pick_holds : (w : Start) (rank : ℕ) (e : t.ExprTree) (f : Frame) (fs : List Frame) (scope : Blocks) (front : List Token) (b : Bool) (r : t.ExprTree × List Frame) → ends rank f ≡ b
    → Holds w (f ∷ fs) (have_expr e) scope front → (Holds w fs (have_expr (plug_frame f e)) scope front → Holds w r.1 (have_expr r.0) scope front)
    → Holds w (if b then r else (e, f ∷ fs)).1 (have_expr (if b then r else (e, f ∷ fs)).0) scope front
pick_holds w rank e f fs scope front false r q h k = h
pick_holds w rank e (in_operation o) fs scope front true r q h k = k (plug_holds w o fs e scope front h)
pick_holds w rank e _ fs scope front true r q h k = absurd cc

reduce_holds : (w : Start) (rank : ℕ) (e : t.ExprTree) (fs : List Frame) (scope : Blocks) (front : List Token) → Holds w fs (have_expr e) scope front → Holds w (reduce rank e fs).1 (have_expr (reduce rank e fs).0) scope front
reduce_holds w rank e [] scope front h = h
reduce_holds w rank e (f ∷ fs) scope front h = pick_holds w rank e f fs scope front (ends rank f) (reduce rank (plug_frame f e) fs) refl h (reduce_holds w rank (plug_frame f e) fs scope front)

-- where nothing is open
pub at_start : (A : Phrase) (w : Start) (ts : List Token) → (fronts w [] ▸ A) ts → A ts
at_start A w ts p = subst A (sym (p.2 ∙ ap (λ xs. xs ++ p.1) p.3)) p.4

paren_good : (w : Start) (l : Pos) (e : t.ExprTree) (fs : List Frame) (front : List Token) (tok : Token) (scope : Blocks) (sc : Scope) (sign : Sign) → Says sc sign tok.kind → Holds w (in_paren l ∷ fs) (have_expr e) scope front → Good w front tok scope (close_paren l e fs sign)
paren_good w l e fs front tok scope sc signs.Close s h =
    let low = hole_low w fs h.stand.1 in
    record {
      scope_is = h.scope_is;
      stand = h.stand.1;
      fits = tt;
      reads = map_right (λ xs q. (omega (arith, low), map_right (λ ys r. map_left (λ zs u. u.1) r) (regroup q))) (attach _ _ (regroup h.reads) (is_some_one tok _ s));
    }
paren_good w l e fs front tok scope sc _ s h = tt

index_good : (w : Start) (l : Pos) (a e : t.ExprTree) (fs : List Frame) (front : List Token) (tok : Token) (scope : Blocks) (sc : Scope) (sign : Sign) → Says sc sign tok.kind → Holds w (in_index l a ∷ fs) (have_expr e) scope front → Good w front tok scope (close_index l a e fs sign)
index_good w l a e fs front tok scope sc signs.CloseBracket s h =
    let low = hole_low w fs h.stand.1 in
    record {
      scope_is = h.scope_is;
      stand = h.stand.1;
      fits = tt;
      reads = map_right (λ xs q. (omega (arith, low), map_left (loosen 15 (scope_at w fs) a) (map_right (λ ys r. map_right (λ zs u. map_left (λ vs x. x.1) u) r) (regroup (regroup q))))) (attach _ _ (regroup h.reads) (is_some_one tok _ s));
    }
index_good w l a e fs front tok scope sc _ s h = tt

-- the arguments with one more
argument : (b : Scope) (l : Pos) (f : t.ExprTree) (es : t.ExprList) (e : t.ExprTree) (ts : List Token) → (((tight 15 b f ▸ mark l puncts.OpenParen) ▸ (g.arguments (after b f) es ▸ comma_unless (is_no_expr es))) ▸ tight 1 (after_exprs (after b f) es) e) ts → ((tight 15 b f ▸ mark l puncts.OpenParen) ▸ g.arguments (after b f) (t.and_expr es e)) ts
argument b l f es e ts p = map_right (λ xs q. map_right (λ ys r. map_right (loosen 1 (after_exprs (after b f) es) e) r) (regroup q)) (regroup p)

call_good : (w : Start) (l : Pos) (f : t.ExprTree) (es : t.ExprList) (e : t.ExprTree) (fs : List Frame) (front : List Token) (tok : Token) (scope : Blocks) (sc : Scope) (sign : Sign) → Says sc sign tok.kind → Holds w (in_call l f es ∷ fs) (have_expr e) scope front → Good w front tok scope (close_call l f (t.and_expr es e) fs sign)
call_good w l f es e fs front tok scope sc signs.Close s h =
    let low = hole_low w fs h.stand.1 in
    record {
      scope_is = h.scope_is;
      stand = h.stand.1;
      fits = tt;
      reads = map_right (λ xs q. (omega (arith, low), map_left (loosen 15 (scope_at w fs) f) (regroup (regroup q)))) (attach _ _ (map_right (argument (scope_at w fs) l f es e) (regroup h.reads)) (is_some_one tok _ s));
    }
call_good w l f es e fs front tok scope sc signs.Comma s h = record {
  scope_is = h.scope_is;
  stand = (tt, h.stand.1);
  fits = tt;
  reads = map_right (λ xs q. regroup q) (attach _ _ (map_right (argument (scope_at w fs) l f es e) (regroup h.reads)) (is_some_one tok _ s));
}
call_good w l f es e fs front tok scope sc _ s h = tt

then_good : (w : Start) (l : Pos) (c e : t.ExprTree) (fs : List Frame) (front : List Token) (tok : Token) (scope : Blocks) (sc : Scope) (sign : Sign) → Says sc sign tok.kind → Holds w (in_then l c ∷ fs) (have_expr e) scope front → Good w front tok scope (close_then l c e fs sign)
then_good w l c e fs front tok scope sc signs.Colon s h = record {
  scope_is = h.scope_is;
  stand = (h.stand.0, h.stand.1);
  fits = tt;
  reads = map_right (λ xs q. map_left (λ ys r. map_right (λ zs u. u.1) r) q) (attach _ _ (regroup h.reads) (is_some_one tok _ s));
}
then_good w l c e fs front tok scope sc _ s h = tt

bound_good : (w : Start) (l : Pos) (d : t.DeclaratorTree) (e : t.ExprTree) (fs : List Frame) (front : List Token) (tok : Token) (scope : Blocks) (sc : Scope) (sign : Sign) → Says sc sign tok.kind → Holds w (in_bound l d ∷ fs) (have_expr e) scope front → Good w front tok scope (close_bound l d e fs sign)
bound_good w l d e fs front tok scope sc signs.CloseBracket s h = record {
  scope_is = h.scope_is;
  stand = h.stand.1;
  fits = (h.stand.0, refl, refl);
  reads = map_right (λ xs q k. map_right (λ ys r. map_right (λ zs u. map_left (λ vs x. before_nothing (loosen 2 (after_declarator (scope_at w fs) d) e vs x)) u) r) (regroup (regroup q))) (attach _ _ (regroup h.reads) (is_some_one tok _ s));
}
bound_good w l d e fs front tok scope sc _ s h = tt

width_read : (w : Start) (part : MembersPart) (l : Pos) (d : t.MaybeDeclarator) (e : t.ExprTree) (fs : List Frame) (front : List Token) (scope : Blocks) → Holds w (in_width part l d ∷ fs) (have_expr e) scope front → MemberRead w fs (with_member part l d (t.an_expr e)) scope front
width_read w part l d e fs front scope h = record {
  scope_is = h.scope_is;
  stand = h.stand.1;
  storage = h.stand.0;
  some = refl;
  reads = map_right (λ xs q. map_right (λ ys r. map_right (λ zs u. map_right (λ vs x. map_right (λ us y. map_right (loosen 2 (after_maybe_declarator (member_scope (scope_at w fs) part) d) e) y) (regroup x)) u) (regroup r)) (regroup (regroup q))) (regroup h.reads);
}

value_read : (w : Start) (part : EnumPart) (n : Name) (l : Pos) (e : t.ExprTree) (fs : List Frame) (front : List Token) (scope : Blocks) → Holds w (in_value part n l ∷ fs) (have_expr e) scope front → EnumeratorRead w fs (with_enumerator part n l (t.an_expr e)) n scope front
value_read w part n l e fs front scope h = record {
  scope_is = ap (with_declared n false) h.scope_is;
  stand = h.stand.1;
  storage = h.stand.0;
  some = refl;
  reads = map_right (λ xs q. map_right (λ ys r. map_right (λ zs u. map_right (λ vs x. map_right (λ us y. map_right (loosen 2 (enum_scope (scope_at w fs) part) e) y) x) u) (regroup r)) (regroup (regroup (regroup q)))) (regroup h.reads);
}

close_good : (w : Start) (e : t.ExprTree) (fs : List Frame) (front : List Token) (tok : Token) (scope : Blocks) (sc : Scope) (sign : Sign) → Says sc sign tok.kind → Holds w fs (have_expr e) scope front → Good w front tok scope (close e fs sign)
unfolding close
close_good w e [] front tok scope sc sign s h = (h.scope_is, at_start (tight w.least w.scope e) w front h.reads)
close_good w e (in_paren l ∷ fs) front tok scope sc sign s h = paren_good w l e fs front tok scope sc sign s h
close_good w e (in_index l a ∷ fs) front tok scope sc sign s h = index_good w l a e fs front tok scope sc sign s h
close_good w e (in_call l f es ∷ fs) front tok scope sc sign s h = call_good w l f es e fs front tok scope sc sign s h
close_good w e (in_then l c ∷ fs) front tok scope sc sign s h = then_good w l c e fs front tok scope sc sign s h
close_good w e (in_bound l d ∷ fs) front tok scope sc sign s h = bound_good w l d e fs front tok scope sc sign s h
close_good w e (in_width part l d ∷ fs) front tok scope sc sign s h = member_good w fs (with_member part l d (t.an_expr e)) front tok scope sc sign s (width_read w part l d e fs front scope h)
close_good w e (in_value part n l ∷ fs) front tok scope sc sign s h = enumerator_good w fs (with_enumerator part n l (t.an_expr e)) n front tok scope sc sign s (value_read w part n l e fs front scope h)
close_good w e (f ∷ fs) front tok scope sc sign s h = tt

compound_mark : (tok : Token) (p : Option Punct) → is_mark p tok.kind → assign_mark tok.pos p (tok ∷ [])
compound_mark tok None s = s
compound_mark tok (Some p) s = is_one tok _ s

infix_marked : (tok : Token) (i : Infix) → InfixSays i tok.kind → infix_mark tok.pos i (tok ∷ [])
infix_marked tok (infixes.Binary op) s = is_one tok _ s
infix_marked tok infixes.And s = is_one tok _ s
infix_marked tok infixes.Or s = is_one tok _ s
infix_marked tok (infixes.Assign op) s = compound_mark tok (assign_punct op) s
infix_marked tok infixes.Comma s = is_one tok _ s

-- an operator and the place behind it
right_holds : (w : Start) (i : Infix) (e : t.ExprTree) (fs : List Frame) (front : List Token) (tok : Token) (scope : Blocks) → left_of_infix i ≤ level_of e → hole w.least fs ≤ level_of_infix i → InfixSays i tok.kind → Holds w fs (have_expr e) scope front → Holds w (in_operation (in_right tok.pos i e) ∷ fs) operand scope (front ++ tok ∷ [])
right_holds w i e fs front tok scope left rank s h = record {
  scope_is = h.scope_is;
  stand = (rank, h.stand);
  fits = tt;
  reads = map_right (λ xs q. map_left (λ ys r. (left, r.1)) q) (attach _ _ h.reads (infix_marked tok i s));
}

extend_by_good : (w : Start) (e : t.ExprTree) (fs : List Frame) (front : List Token) (tok : Token) (scope : Blocks) (sc : Scope) (sign : Sign) → left_of sign ≤ level_of e → hole w.least fs ≤ rank_of sign → Says sc sign tok.kind → Holds w fs (have_expr e) scope front → Good w front tok scope (extend_by (infix_of sign) e fs tok.pos sign)
unfolding extend_by
extend_by_good w e fs front tok scope sc signs.Star left rank s h = right_holds w _ e fs front tok scope left rank s h
extend_by_good w e fs front tok scope sc (signs.Either u op) left rank s h = right_holds w (infixes.Binary op) e fs front tok scope left rank s.1 h
extend_by_good w e fs front tok scope sc (signs.Infix i) left rank s h = right_holds w i e fs front tok scope left rank s h
extend_by_good w e fs front tok scope sc signs.Comma left rank s h = right_holds w infixes.Comma e fs front tok scope left rank s h
extend_by_good w e fs front tok scope sc signs.Open left rank s h = record { scope_is = h.scope_is; stand = h.stand; fits = tt; reads = map_right (λ xs q. map_left (λ ys r. (left, r.1)) q) (attach _ _ h.reads (is_one tok _ s)) }
extend_by_good w e fs front tok scope sc signs.OpenBracket left rank s h = record { scope_is = h.scope_is; stand = (tt, h.stand); fits = tt; reads = map_right (λ xs q. map_left (λ ys r. (left, r.1)) q) (attach _ _ h.reads (is_one tok _ s)) }
extend_by_good w e fs front tok scope sc (signs.Member arrow) left rank s h = record { scope_is = h.scope_is; stand = h.stand; fits = tt; reads = map_right (λ xs q. map_left (λ ys r. (left, r.1)) q) (attach _ _ h.reads (is_one tok _ s)) }
extend_by_good w e fs front tok scope sc (signs.Step false) left rank s h =
    let low = hole_low w fs h.stand in
    record { scope_is = h.scope_is; stand = h.stand; fits = tt; reads = map_right (λ xs q. (omega (arith, low), map_left (λ ys r. loosen 15 (scope_at w fs) e ys (left, r.1)) q)) (attach _ _ h.reads (is_one tok _ s)) }
extend_by_good w e fs front tok scope sc (signs.Step true) left rank s h =
    let low = hole_low w fs h.stand in
    record { scope_is = h.scope_is; stand = h.stand; fits = tt; reads = map_right (λ xs q. (omega (arith, low), map_left (λ ys r. loosen 15 (scope_at w fs) e ys (left, r.1)) q)) (attach _ _ h.reads (is_one tok _ s)) }
extend_by_good w e fs front tok scope sc signs.Question left rank s h = record { scope_is = h.scope_is; stand = (rank, h.stand); fits = tt; reads = map_right (λ xs q. map_left (λ ys r. (left, r.1)) q) (attach _ _ h.reads (is_one tok _ s)) }
extend_by_good w e fs front tok scope sc _ left rank s h = tt

both_true : (a b : Bool) → (if a then b else false) ≡ true → (a ≡ true) × (b ≡ true)
both_true true b e = (refl, e)
both_true false b e = absurd cc

extend_good : (limit : ℕ) (w : Start) (e : t.ExprTree) (fs : List Frame) (front : List Token) (tok : Token) (scope : Blocks) (sc : Scope) (sign : Sign) → Says sc sign tok.kind → Holds w fs (have_expr e) scope front → Good w front tok scope (extend limit w.least e fs tok.pos sign)
extend_good limit w e fs front tok scope sc sign s h = good_if w front tok scope (goes_on w.least e fs sign) _ _
    (λ q. let two = both_true (nat_le (left_of sign) (level_of e)) (nat_le (hole w.least fs) (rank_of sign)) q in good_within w front tok scope _ _ (extend_by_good w e fs front tok scope sc sign (leb-true _ _ two.0) (leb-true _ _ two.1) s h))
    (λ q. close_good w e fs front tok scope sc sign s h)

pub expr_good : (limit : ℕ) (w : Start) (e : t.ExprTree) (fs : List Frame) (front : List Token) (tok : Token) (scope : Blocks) (sc : Scope) (sign : Sign) → Says sc sign tok.kind → Holds w fs (have_expr e) scope front → Good w front tok scope (expr_step limit w.least e fs tok.pos sign)
unfolding expr_step
expr_good limit w e fs front tok scope sc sign s h = extend_good limit w (reduce (rank_of sign) e fs).0 (reduce (rank_of sign) e fs).1 front tok scope sc sign s (reduce_holds w (rank_of sign) e fs scope front h)
