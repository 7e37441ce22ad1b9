-- Tokens that close what is open.
use Rattle.std.proofs.Common.{◌≡◌, ℕ, ◌+◌, ◌≤◌, List, [], ◌∷◌, ◌++◌, length, false, refl, sym, ap, ◌∙◌, subst, arith}
use Rattle.std.proofs.lemmas.Bool.{lt-ltb, lt-leb, le-leb}
use Rattle.std.specs.Prelude.{nat_le, if◌then◌else◌, Ok}
use Rattle.c65_base.specs.declared.names.Name.{Name}
use Rattle.c65_base.specs.declared.refusal.Pos.{Pos}
use Rattle.c65_ints.specs.declared.types.IntType.TheVariants as ints
use Rattle.c65_scan.specs.declared.token.Keyword.TheVariants as keywords
use Rattle.c65_scan.specs.declared.token.Punct.TheVariants as puncts
use Rattle.c65_scan.specs.declared.token.Token.{Token}
use Rattle.c65_scan.specs.declared.token.TokenKind.{TokenKind}
use Rattle.c65_scan.specs.declared.token.TokenKind.TheVariants as kinds
use Rattle.c65_tree.specs.Trees as t
use Rattle.c65_tree.specs.Depth.{expr_depth, specifiers_depth}
use Rattle.c65_parse_trees.specs.declared.operator.Infix.{Infix}
use Rattle.c65_parse_trees.specs.declared.operator.Infix.TheVariants as infixes
use Rattle.c65_parse_trees.specs.declared.operator.Prefix.{Prefix}
use Rattle.c65_parse_trees.specs.declared.operator.Prefix.TheVariants as prefixes
use Rattle.c65_parse_trees.specs.declared.sign.Sign.{Sign}
use Rattle.c65_parse_trees.specs.declared.sign.Sign.TheVariants as signs
use Rattle.c65_parse_trees.specs.declared.sign.Word.TheVariants as words
use Rattle.c65_parse_trees.specs.Levels.{level_of, right_of_infix, right_of_prefix}
use Rattle.c65_parse_trees.specs.Signs.{left_of, rank_of, infix_of}
use Rattle.c65_parse_trees.specs.Listings.{Listing, Listed, Body, MembersPart, EnumPart, ParamsPart, with_word, with_body, with_enum, ended}
use Rattle.c65_parse_names.specs.Scopes.{Blocks}
use Rattle.c65_parse.specs.declared.frame.Change.{Change}
use Rattle.c65_parse.specs.declared.frame.Change.TheVariants as changes
use Rattle.c65_parse.specs.declared.frame.Derivation.{Derivation}
use Rattle.c65_parse.specs.declared.frame.TypeUse.{TypeUse}
use Rattle.c65_parse.specs.declared.frame.TypeUse.TheVariants as uses
use Rattle.c65_parse.specs.Frames.{Operation, in_prefix, in_cast, in_right, in_else, Frame, in_operation, in_paren, in_index, in_call, in_then, in_bound, in_width, in_value, in_type, in_type_declarator, in_members, in_member, in_params, in_param, in_group, in_derived, Held, operand, have_expr, specifiers, more_members, have_declarator, Done, done_expr, done_specifiers, done_declarator, Next, go, stop}
use Rattle.c65_parse.specs.Expressions.{goes, within, operand_step, hole, hole_of, plug, reduce, extend_by, close, with_member, with_decl, close_member, with_enumerator, close_enumerator, extend, expr_step}
use Rattle.c65_parse.specs.Declarators.{derived, with_type, with_param, with_params, close_param, close_member_declarator, close_declarator, declarator_end, without_name, declarator_step}
use Rattle.c65_parse.specs.Specifiers.{member_step, end_listed, end_specifiers, specifiers_step, more_members_step}
use Rattle.c65_parse.specs.Machine.{run, step, changed}
use Rattle.c65_parse_grammar.specs.Phrases.{token}
use Rattle.c65_parse_law_trees.proofs.Runs.{then_run}
use Rattle.c65_parse_law_trees.proofs.Steps.{level_high}
use Rattle.c65_parse_law_least.proofs.Places.{Place, of_expr, of_specifiers, of_declarator, Same, Takes, place_of}

-- no specifiers are none
abbrev pub Some : Done → Type 0
Some (done_expr e) = Unit {0}
Some (done_specifiers q) = 1 ≤ specifiers_depth q.tree
Some (done_declarator d) = Unit {0}

-- tokens with which what was read so far is a whole tree before an end
pub record Completes (limit : ℕ) (top : Place) (l : Pos) (least : ℕ) (scope : Blocks) (fs : List Frame) (held : Held) : Type 0 where
  pub more : List Token
  pub tree : Done
  pub behind : Blocks
  pub sort : Same top (place_of tree)
  pub some : Some tree
  pub are : run limit least scope fs held (more ++ token kinds.End l ∷ []) ≡ Ok (tree, token kinds.End l ∷ [], behind)

-- a token that ends a tree
abbrev pub Closer : TokenKind → Type 0
Closer (kinds.Punct puncts.CloseParen) = Unit {0}
Closer (kinds.Punct puncts.CloseBracket) = Unit {0}
Closer (kinds.Punct puncts.CloseBrace) = Unit {0}
Closer (kinds.Punct puncts.Colon) = Unit {0}
Closer (kinds.Punct puncts.Semicolon) = Unit {0}
Closer kinds.End = Unit {0}
Closer _ = ⊥

-- where tokens begin with such a token at this place, or there are none
abbrev pub Begins : Pos → List Token → Type 0
Begins l [] = Unit {0}
Begins l (tok ∷ ts) = Closer tok.kind × (tok.pos ≡ l)

pub record Closes (limit : ℕ) (top : Place) (l : Pos) (least : ℕ) (scope : Blocks) (fs : List Frame) (held : Held) : Type 0 where
  pub completes : Completes limit top l least scope fs held
  pub begins : Begins l completes.more

-- with a token before them
pub preceded : (limit : ℕ) (top : Place) (l : Pos) (least : ℕ) (scope : Blocks) (fs gs : List Frame) (held next : Held) (change : Change) (tok : Token) → step limit least scope fs held tok ≡ go gs next change → Completes limit top l least (changed change scope) gs next → Completes limit top l least scope fs held
preceded limit top l least scope fs gs held next change tok e c = record { more = tok ∷ c.more; tree = c.tree; behind = c.behind; sort = c.sort; some = c.some; are = ap (then_run limit least scope tok (c.more ++ token kinds.End l ∷ [])) e ∙ c.are }

closed_by : (limit : ℕ) (top : Place) (l : Pos) (least : ℕ) (scope : Blocks) (fs gs : List Frame) (held next : Held) (change : Change) (k : TokenKind) → Closer k → step limit least scope fs held (token k l) ≡ go gs next change → Completes limit top l least (changed change scope) gs next → Closes limit top l least scope fs held
closed_by limit top l least scope fs gs held next change k h e c = record { completes = record { more = token k l ∷ c.more; tree = c.tree; behind = c.behind; sort = c.sort; some = c.some; are = ap (then_run limit least scope (token k l) (c.more ++ token kinds.End l ∷ [])) e ∙ c.are }; begins = (h, refl) }

-- every place of an operation is above an operation with a comma
prefix_high : (p : Prefix) → 1 ≤ right_of_prefix p
prefix_high (prefixes.Unary op) = omega arith
prefix_high (prefixes.Step how) = omega arith
prefix_high prefixes.Sizeof = omega arith

infix_high : (i : Infix) → 1 ≤ right_of_infix i
infix_high (infixes.Binary op) = omega arith
infix_high infixes.And = omega arith
infix_high infixes.Or = omega arith
infix_high (infixes.Assign op) = omega arith
infix_high infixes.Comma = omega arith

hole_high : (o : Operation) → 1 ≤ hole_of o
hole_high (in_prefix l p) = prefix_high p
hole_high (in_cast l ty) = omega arith
hole_high (in_right l i a) = infix_high i
hole_high (in_else l c a) = omega arith

abbrev extended : (limit : ℕ) → ℕ → Pos → Sign → t.ExprTree × List Frame → Next
extended limit least l sign r = extend limit least r.0 r.1 l sign

operation_by : (limit : ℕ) (least : ℕ) (e : t.ExprTree) (o : Operation) (fs : List Frame) (l : Pos) (sign : Sign) → rank_of sign ≡ 0 → expr_step limit least e (in_operation o ∷ fs) l sign ≡ expr_step limit least (plug o e) fs l sign
unfolding expr_step
operation_by limit least e o fs l sign z = ap (λ b. extended limit least l sign (if b then reduce (rank_of sign) (plug o e) fs else (e, in_operation o ∷ fs))) (lt-ltb (rank_of sign) (hole_of o) (let high = hole_high o in omega (arith, z, high)))

operation_same : (limit : ℕ) (least : ℕ) (scope : Blocks) (e : t.ExprTree) (o : Operation) (fs : List Frame) (k : TokenKind) (l : Pos) → Closer k → step limit least scope (in_operation o ∷ fs) (have_expr e) (token k l) ≡ step limit least scope fs (have_expr (plug o e)) (token k l)
unfolding step
operation_same limit least scope e o fs (kinds.Punct puncts.CloseParen) l h = operation_by limit least e o fs l signs.Close refl
operation_same limit least scope e o fs (kinds.Punct puncts.CloseBracket) l h = operation_by limit least e o fs l signs.CloseBracket refl
operation_same limit least scope e o fs (kinds.Punct puncts.CloseBrace) l h = operation_by limit least e o fs l signs.CloseBrace refl
operation_same limit least scope e o fs (kinds.Punct puncts.Colon) l h = operation_by limit least e o fs l signs.Colon refl
operation_same limit least scope e o fs (kinds.Punct puncts.Semicolon) l h = operation_by limit least e o fs l signs.Semicolon refl
operation_same limit least scope e o fs kinds.End l h = operation_by limit least e o fs l signs.Other refl
operation_same limit least scope e o fs (kinds.Punct _) l h = absurd h
operation_same limit least scope e o fs (kinds.Keyword k) l h = absurd h
operation_same limit least scope e o fs (kinds.Name n) l h = absurd h
operation_same limit least scope e o fs (kinds.Number ty n) l h = absurd h
operation_same limit least scope e o fs (kinds.Text bs) l h = absurd h

-- where a closer does the same in two states
run_same : (limit : ℕ) (least : ℕ) (scope : Blocks) (fs gs : List Frame) (held next : Held) (l : Pos) (ts : List Token) → Begins l ts → ((k : TokenKind) → Closer k → step limit least scope fs held (token k l) ≡ step limit least scope gs next (token k l)) → run limit least scope fs held (ts ++ token kinds.End l ∷ []) ≡ run limit least scope gs next (ts ++ token kinds.End l ∷ [])
run_same limit least scope fs gs held next l [] h f = ap (then_run limit least scope (token kinds.End l) []) (f kinds.End tt)
run_same limit least scope fs gs held next l (tok ∷ ts) h f = ap (then_run limit least scope tok (ts ++ token kinds.End l ∷ [])) (subst (λ p. step limit least scope fs held (token tok.kind p) ≡ step limit least scope gs next (token tok.kind p)) (sym h.1) (f tok.kind h.0))

pub closes_same : (limit : ℕ) (top : Place) (l : Pos) (least : ℕ) (scope : Blocks) (fs gs : List Frame) (held next : Held) → ((k : TokenKind) → Closer k → step limit least scope fs held (token k l) ≡ step limit least scope gs next (token k l)) → Closes limit top l least scope gs next → Closes limit top l least scope fs held
closes_same limit top l least scope fs gs held next f c = record { completes = record { more = c.completes.more; tree = c.completes.tree; behind = c.completes.behind; sort = c.completes.sort; some = c.completes.some; are = run_same limit least scope fs gs held next l c.completes.more c.begins f ∙ c.completes.are }; begins = c.begins }

operation_closes : (limit : ℕ) (top : Place) (l : Pos) (least : ℕ) (scope : Blocks) (fs : List Frame) (e : t.ExprTree) (o : Operation) → Closes limit top l least scope fs (have_expr (plug o e)) → Closes limit top l least scope (in_operation o ∷ fs) (have_expr e)
operation_closes limit top l least scope fs e o c = closes_same limit top l least scope (in_operation o ∷ fs) fs (have_expr e) (have_expr (plug o e)) (λ k h. operation_same limit least scope e o fs k l h) c

-- behind a whole expression
closing : (limit : ℕ) (least : ℕ) (e : t.ExprTree) (fs : List Frame) (l : Pos) (sign : Sign) → left_of sign ≡ 16 → reduce (rank_of sign) e fs ≡ (e, fs) → expr_step limit least e fs l sign ≡ close e fs sign
unfolding expr_step
closing limit least e fs l sign z h = ap (extended limit least l sign) h ∙ ap (λ b. if (if b then nat_le (hole least fs) (rank_of sign) else false) then within (nat_le (expr_depth e + (length fs + 1)) limit) (extend_by (infix_of sign) e fs l sign) else close e fs sign) (lt-leb (left_of sign) (level_of e) (let high = level_high e in omega (arith, z, high)))

abbrev pub zero_tree : Pos → t.ExprTree
zero_tree l = t.number l ints.Int 0

abbrev pub zero_token : Pos → Token
zero_token l = token (kinds.Number ints.Int 0) l

operand_zero : (limit : ℕ) (fs : List Frame) (l : Pos) → 1 + length fs ≤ limit → operand_step limit fs (zero_token l) signs.Literal ≡ goes fs (have_expr (zero_tree l))
unfolding operand_step
operand_zero limit fs l room = ap (λ b. within b (goes fs (have_expr (zero_tree l)))) (le-leb (1 + length fs) limit room)

pub zero_step : (limit : ℕ) (least : ℕ) (scope : Blocks) (fs : List Frame) (l : Pos) → 1 + length fs ≤ limit → step limit least scope fs operand (zero_token l) ≡ goes fs (have_expr (zero_tree l))
unfolding step
zero_step limit least scope fs l room = operand_zero limit fs l room

-- what is open closes behind each sort of tree
pub record All (limit : ℕ) (top : Place) (l : Pos) (least : ℕ) (fs : List Frame) : Type 0 where
  pub expr : (scope : Blocks) (e : t.ExprTree) → Takes limit top of_expr fs → Closes limit top l least scope fs (have_expr e)
  pub declared : (scope : Blocks) (d : t.DeclaratorTree) → Takes limit top of_declarator fs → Closes limit top l least scope fs (have_declarator d)
  pub listed : (scope : Blocks) (q : Listing) → Takes limit top of_specifiers fs → Completes limit top l least scope fs (specifiers q)

-- one more type specifier
abbrev pub int_token : Pos → Token
int_token l = token (kinds.Keyword keywords.Int) l

pub int_step : (limit : ℕ) (least : ℕ) (scope : Blocks) (fs : List Frame) (q : Listing) (l : Pos) → step limit least scope fs (specifiers q) (int_token l) ≡ goes fs (specifiers (with_word q l words.Int))
unfolding step specifiers_step
int_step limit least scope fs q l = refl

-- where nothing is open
expr_whole : (limit : ℕ) (least : ℕ) (scope : Blocks) (e : t.ExprTree) (l : Pos) → step limit least scope [] (have_expr e) (token kinds.End l) ≡ stop (done_expr e)
unfolding step close
expr_whole limit least scope e l = closing limit least e [] l signs.Other refl refl

declarator_whole : (limit : ℕ) (least : ℕ) (scope : Blocks) (d : t.DeclaratorTree) (l : Pos) → step limit least scope [] (have_declarator d) (token kinds.End l) ≡ stop (done_declarator d)
unfolding step declarator_end close_declarator
declarator_whole limit least scope d l = refl

listing_whole : (limit : ℕ) (least : ℕ) (scope : Blocks) (q : Listing) (l : Pos) → step limit least scope [] (specifiers q) (token kinds.End l) ≡ stop (done_specifiers (ended q l))
unfolding step specifiers_step end_specifiers
listing_whole limit least scope q l = refl

nothing_open : (limit : ℕ) (top : Place) (l : Pos) (least : ℕ) → All limit top l least []
nothing_open limit top l least = record {
  expr = λ scope e h. record { completes = record { more = []; tree = done_expr e; behind = scope; sort = h; some = tt; are = ap (then_run limit least scope (token kinds.End l) []) (expr_whole limit least scope e l) }; begins = tt };
  declared = λ scope d h. record { completes = record { more = []; tree = done_declarator d; behind = scope; sort = h; some = tt; are = ap (then_run limit least scope (token kinds.End l) []) (declarator_whole limit least scope d l) }; begins = tt };
  listed = λ scope q h. record { more = int_token l ∷ []; tree = done_specifiers (ended (with_word q l words.Int) l); behind = scope; sort = h; some = omega arith; are = ap (then_run limit least scope (int_token l) (token kinds.End l ∷ [])) (int_step limit least scope [] q l) ∙ ap (then_run limit least scope (token kinds.End l) []) (listing_whole limit least scope (with_word q l words.Int) l) };
}

-- the brace behind members
pub brace_step : (limit : ℕ) (least : ℕ) (scope : Blocks) (fs : List Frame) (body : Body) (l : Pos) → step limit least scope fs (more_members body) (token (kinds.Punct puncts.CloseBrace) l) ≡ goes fs (specifiers (with_body body))
unfolding step more_members_step
brace_step limit least scope fs body l = refl

members_close : (limit : ℕ) (top : Place) (l : Pos) (least : ℕ) (fs : List Frame) → All limit top l least fs → (scope : Blocks) (held : Held) (gs : List Frame) (part : MembersPart) → step limit least scope gs held (token (kinds.Punct puncts.Semicolon) l) ≡ goes fs (more_members (with_decl part)) → Takes limit top of_specifiers fs → Closes limit top l least scope gs held
members_close limit top l least fs all scope held gs part e h = closed_by limit top l least scope gs fs held (more_members (with_decl part)) changes.Nothing (kinds.Punct puncts.Semicolon) tt e
    (preceded limit top l least scope fs fs (more_members (with_decl part)) (specifiers (with_body (with_decl part))) changes.Nothing (token (kinds.Punct puncts.CloseBrace) l) (brace_step limit least scope fs (with_decl part) l) (all.listed scope (with_body (with_decl part)) h))

-- an expression in each construct
paren_step : (limit : ℕ) (least : ℕ) (scope : Blocks) (k : Pos) (e : t.ExprTree) (fs : List Frame) (l : Pos) → step limit least scope (in_paren k ∷ fs) (have_expr e) (token (kinds.Punct puncts.CloseParen) l) ≡ goes fs (have_expr (t.paren k e))
unfolding step close
paren_step limit least scope k e fs l = closing limit least e (in_paren k ∷ fs) l signs.Close refl refl

index_step : (limit : ℕ) (least : ℕ) (scope : Blocks) (k : Pos) (a e : t.ExprTree) (fs : List Frame) (l : Pos) → step limit least scope (in_index k a ∷ fs) (have_expr e) (token (kinds.Punct puncts.CloseBracket) l) ≡ goes fs (have_expr (t.index k a e))
unfolding step close
index_step limit least scope k a e fs l = closing limit least e (in_index k a ∷ fs) l signs.CloseBracket refl refl

call_step : (limit : ℕ) (least : ℕ) (scope : Blocks) (k : Pos) (f : t.ExprTree) (es : t.ExprList) (e : t.ExprTree) (fs : List Frame) (l : Pos) → step limit least scope (in_call k f es ∷ fs) (have_expr e) (token (kinds.Punct puncts.CloseParen) l) ≡ goes fs (have_expr (t.call k f (t.and_expr es e)))
unfolding step close
call_step limit least scope k f es e fs l = closing limit least e (in_call k f es ∷ fs) l signs.Close refl refl

then_step : (limit : ℕ) (least : ℕ) (scope : Blocks) (k : Pos) (c e : t.ExprTree) (fs : List Frame) (l : Pos) → step limit least scope (in_then k c ∷ fs) (have_expr e) (token (kinds.Punct puncts.Colon) l) ≡ goes (in_operation (in_else k c e) ∷ fs) operand
unfolding step close
then_step limit least scope k c e fs l = closing limit least e (in_then k c ∷ fs) l signs.Colon refl refl

bound_step : (limit : ℕ) (least : ℕ) (scope : Blocks) (k : Pos) (d : t.DeclaratorTree) (e : t.ExprTree) (fs : List Frame) (l : Pos) → step limit least scope (in_bound k d ∷ fs) (have_expr e) (token (kinds.Punct puncts.CloseBracket) l) ≡ goes fs (have_declarator (t.array k d (t.an_expr e)))
unfolding step close
bound_step limit least scope k d e fs l = closing limit least e (in_bound k d ∷ fs) l signs.CloseBracket refl refl

width_step : (limit : ℕ) (least : ℕ) (scope : Blocks) (part : MembersPart) (k : Pos) (d : t.MaybeDeclarator) (e : t.ExprTree) (fs : List Frame) (l : Pos) → step limit least scope (in_width part k d ∷ fs) (have_expr e) (token (kinds.Punct puncts.Semicolon) l) ≡ goes fs (more_members (with_decl (with_member part k d (t.an_expr e))))
unfolding step close close_member
width_step limit least scope part k d e fs l = closing limit least e (in_width part k d ∷ fs) l signs.Semicolon refl refl

value_step : (limit : ℕ) (least : ℕ) (scope : Blocks) (part : EnumPart) (n : Name) (k : Pos) (e : t.ExprTree) (fs : List Frame) (l : Pos) → step limit least scope (in_value part n k ∷ fs) (have_expr e) (token (kinds.Punct puncts.CloseBrace) l) ≡ go fs (specifiers (with_enum (with_enumerator part n k (t.an_expr e)))) (changes.Declare n false)
unfolding step close close_enumerator
value_step limit least scope part n k e fs l = closing limit least e (in_value part n k ∷ fs) l signs.CloseBrace refl refl

expr_closes : (limit : ℕ) (top : Place) (l : Pos) (least : ℕ) (f : Frame) (fs : List Frame) → All limit top l least fs → (scope : Blocks) (e : t.ExprTree) → Takes limit top of_expr (f ∷ fs) → Closes limit top l least scope (f ∷ fs) (have_expr e)
expr_closes limit top l least (in_operation o) fs all scope e h = operation_closes limit top l least scope fs e o (all.expr scope (plug o e) h.2)
expr_closes limit top l least (in_paren k) fs all scope e h = closed_by limit top l least scope (in_paren k ∷ fs) fs (have_expr e) (have_expr (t.paren k e)) changes.Nothing (kinds.Punct puncts.CloseParen) tt (paren_step limit least scope k e fs l) (all.expr scope (t.paren k e) h.2).completes
expr_closes limit top l least (in_index k a) fs all scope e h = closed_by limit top l least scope (in_index k a ∷ fs) fs (have_expr e) (have_expr (t.index k a e)) changes.Nothing (kinds.Punct puncts.CloseBracket) tt (index_step limit least scope k a e fs l) (all.expr scope (t.index k a e) h.2).completes
expr_closes limit top l least (in_call k f es) fs all scope e h = closed_by limit top l least scope (in_call k f es ∷ fs) fs (have_expr e) (have_expr (t.call k f (t.and_expr es e))) changes.Nothing (kinds.Punct puncts.CloseParen) tt (call_step limit least scope k f es e fs l) (all.expr scope (t.call k f (t.and_expr es e)) h.2).completes
expr_closes limit top l least (in_then k c) fs all scope e h =
    let room = h.1 in
    closed_by limit top l least scope (in_then k c ∷ fs) (in_operation (in_else k c e) ∷ fs) (have_expr e) operand changes.Nothing (kinds.Punct puncts.Colon) tt (then_step limit least scope k c e fs l)
    (preceded limit top l least scope (in_operation (in_else k c e) ∷ fs) (in_operation (in_else k c e) ∷ fs) operand (have_expr (zero_tree l)) changes.Nothing (zero_token l) (zero_step limit least scope (in_operation (in_else k c e) ∷ fs) l (omega (arith, room)))
    (operation_closes limit top l least scope fs (zero_tree l) (in_else k c e) (all.expr scope (plug (in_else k c e) (zero_tree l)) h.2)).completes)
expr_closes limit top l least (in_bound k d) fs all scope e h = closed_by limit top l least scope (in_bound k d ∷ fs) fs (have_expr e) (have_declarator (t.array k d (t.an_expr e))) changes.Nothing (kinds.Punct puncts.CloseBracket) tt (bound_step limit least scope k d e fs l) (all.declared scope (t.array k d (t.an_expr e)) h.2).completes
expr_closes limit top l least (in_width part k d) fs all scope e h = members_close limit top l least fs all scope (have_expr e) (in_width part k d ∷ fs) (with_member part k d (t.an_expr e)) (width_step limit least scope part k d e fs l) h.2
expr_closes limit top l least (in_value part n k) fs all scope e h = closed_by limit top l least scope (in_value part n k ∷ fs) fs (have_expr e) (specifiers (with_enum (with_enumerator part n k (t.an_expr e)))) (changes.Declare n false) (kinds.Punct puncts.CloseBrace) tt (value_step limit least scope part n k e fs l) (all.listed (changed (changes.Declare n false) scope) (with_enum (with_enumerator part n k (t.an_expr e))) h.2)
expr_closes limit top l least f fs all scope e h = absurd h.0

-- a declarator in each construct
derived_same : (limit : ℕ) (least : ℕ) (scope : Blocks) (d : t.DeclaratorTree) (j : Pos) (how : Derivation) (fs : List Frame) (k : TokenKind) (l : Pos) → Closer k → step limit least scope (in_derived j how ∷ fs) (have_declarator d) (token k l) ≡ step limit least scope fs (have_declarator (derived j how d)) (token k l)
unfolding step declarator_end
derived_same limit least scope d j how fs (kinds.Punct puncts.CloseParen) l h = refl
derived_same limit least scope d j how fs (kinds.Punct puncts.CloseBracket) l h = refl
derived_same limit least scope d j how fs (kinds.Punct puncts.CloseBrace) l h = refl
derived_same limit least scope d j how fs (kinds.Punct puncts.Colon) l h = refl
derived_same limit least scope d j how fs (kinds.Punct puncts.Semicolon) l h = refl
derived_same limit least scope d j how fs kinds.End l h = refl
derived_same limit least scope d j how fs (kinds.Punct _) l h = absurd h
derived_same limit least scope d j how fs (kinds.Keyword k) l h = absurd h
derived_same limit least scope d j how fs (kinds.Name n) l h = absurd h
derived_same limit least scope d j how fs (kinds.Number ty n) l h = absurd h
derived_same limit least scope d j how fs (kinds.Text bs) l h = absurd h

group_step : (limit : ℕ) (least : ℕ) (scope : Blocks) (k : Pos) (d : t.DeclaratorTree) (fs : List Frame) (l : Pos) → step limit least scope (in_group k ∷ fs) (have_declarator d) (token (kinds.Punct puncts.CloseParen) l) ≡ goes fs (have_declarator (t.grouped k d))
unfolding step declarator_end close_declarator
group_step limit least scope k d fs l = refl

type_step : (limit : ℕ) (least : ℕ) (scope : Blocks) (k : Pos) (purpose : TypeUse) (q : t.SpecifiersTree) (d : t.DeclaratorTree) (fs : List Frame) (l : Pos) → step limit least scope (in_type_declarator k purpose q ∷ fs) (have_declarator d) (token (kinds.Punct puncts.CloseParen) l) ≡ with_type k purpose (t.type_name q d) fs
unfolding step declarator_end close_declarator
type_step limit least scope k purpose q d fs l = refl

param_step : (limit : ℕ) (least : ℕ) (scope : Blocks) (part : ParamsPart) (q : Listed) (d : t.DeclaratorTree) (fs : List Frame) (l : Pos) → step limit least scope (in_param part q ∷ fs) (have_declarator d) (token (kinds.Punct puncts.CloseParen) l) ≡ go fs (have_declarator (with_params (with_param part q.tree d) false)) changes.Close
unfolding step declarator_end close_declarator close_param
param_step limit least scope part q d fs l = refl

member_close : (limit : ℕ) (least : ℕ) (scope : Blocks) (part : MembersPart) (k : Pos) (d : t.DeclaratorTree) (fs : List Frame) (l : Pos) → step limit least scope (in_member part k ∷ fs) (have_declarator d) (token (kinds.Punct puncts.Semicolon) l) ≡ goes fs (more_members (with_decl (with_member part k (t.a_declarator d) t.no_expr)))
unfolding step declarator_end close_declarator close_member_declarator close_member
member_close limit least scope part k d fs l = refl

-- a type name's parenthesis, and the operand of a cast
typed_closes : (limit : ℕ) (top : Place) (l : Pos) (least : ℕ) (purpose : TypeUse) (k : Pos) (ty : t.TypeTree) (fs : List Frame) → All limit top l least fs → (scope : Blocks) (held : Held) (gs : List Frame) → 2 + length fs ≤ limit → Takes limit top of_expr fs → step limit least scope gs held (token (kinds.Punct puncts.CloseParen) l) ≡ with_type k purpose ty fs → Closes limit top l least scope gs held
typed_closes limit top l least uses.Cast k ty fs all scope held gs room h e = closed_by limit top l least scope gs (in_operation (in_cast k ty) ∷ fs) held operand changes.Nothing (kinds.Punct puncts.CloseParen) tt e
    (preceded limit top l least scope (in_operation (in_cast k ty) ∷ fs) (in_operation (in_cast k ty) ∷ fs) operand (have_expr (zero_tree l)) changes.Nothing (zero_token l) (zero_step limit least scope (in_operation (in_cast k ty) ∷ fs) l (omega (arith, room)))
    (operation_closes limit top l least scope fs (zero_tree l) (in_cast k ty) (all.expr scope (plug (in_cast k ty) (zero_tree l)) h)).completes)
typed_closes limit top l least uses.Sizeof k ty fs all scope held gs room h e = closed_by limit top l least scope gs fs held (have_expr (t.sizeof_type k ty)) changes.Nothing (kinds.Punct puncts.CloseParen) tt e (all.expr scope (t.sizeof_type k ty) h).completes

declarator_closes : (limit : ℕ) (top : Place) (l : Pos) (least : ℕ) (f : Frame) (fs : List Frame) → All limit top l least fs → (scope : Blocks) (d : t.DeclaratorTree) → Takes limit top of_declarator (f ∷ fs) → Closes limit top l least scope (f ∷ fs) (have_declarator d)
declarator_closes limit top l least (in_derived k how) fs all scope d h = closes_same limit top l least scope (in_derived k how ∷ fs) fs (have_declarator d) (have_declarator (derived k how d)) (λ x c. derived_same limit least scope d k how fs x l c) (all.declared scope (derived k how d) h.2)
declarator_closes limit top l least (in_group k) fs all scope d h = closed_by limit top l least scope (in_group k ∷ fs) fs (have_declarator d) (have_declarator (t.grouped k d)) changes.Nothing (kinds.Punct puncts.CloseParen) tt (group_step limit least scope k d fs l) (all.declared scope (t.grouped k d) h.2).completes
declarator_closes limit top l least (in_type_declarator k purpose q) fs all scope d h = typed_closes limit top l least purpose k (t.type_name q d) fs all scope (have_declarator d) (in_type_declarator k purpose q ∷ fs) h.1 h.2 (type_step limit least scope k purpose q d fs l)
declarator_closes limit top l least (in_param part q) fs all scope d h = closed_by limit top l least scope (in_param part q ∷ fs) fs (have_declarator d) (have_declarator (with_params (with_param part q.tree d) false)) changes.Close (kinds.Punct puncts.CloseParen) tt (param_step limit least scope part q d fs l) (all.declared (changed changes.Close scope) (with_params (with_param part q.tree d) false) h.2).completes
declarator_closes limit top l least (in_member part k) fs all scope d h = members_close limit top l least fs all scope (have_declarator d) (in_member part k ∷ fs) (with_member part k (t.a_declarator d) t.no_expr) (member_close limit least scope part k d fs l) h.2
declarator_closes limit top l least f fs all scope d h = absurd h.0

-- specifiers in each construct, and an end
type_ends : (limit : ℕ) (least : ℕ) (scope : Blocks) (k : Pos) (purpose : TypeUse) (q : Listing) (fs : List Frame) (l : Pos) → step limit least scope (in_type k purpose ∷ fs) (specifiers (with_word q l words.Int)) (token (kinds.Punct puncts.CloseParen) l) ≡ with_type k purpose (t.type_name (ended (with_word q l words.Int) l).tree (t.nameless l)) fs
unfolding step specifiers_step end_specifiers end_listed declarator_step without_name declarator_end close_declarator
type_ends limit least scope k purpose q fs l = refl

param_ends : (limit : ℕ) (least : ℕ) (scope : Blocks) (part : ParamsPart) (q : Listing) (fs : List Frame) (l : Pos) → step limit least scope (in_params part ∷ fs) (specifiers (with_word q l words.Int)) (token (kinds.Punct puncts.CloseParen) l) ≡ go fs (have_declarator (with_params (with_param part (ended (with_word q l words.Int) l).tree (t.nameless l)) false)) changes.Close
unfolding step specifiers_step end_specifiers end_listed declarator_step without_name declarator_end close_declarator close_param
param_ends limit least scope part q fs l = refl

member_ends : (limit : ℕ) (least : ℕ) (scope : Blocks) (body : Body) (q : Listing) (fs : List Frame) (l : Pos) → step limit least scope (in_members body ∷ fs) (specifiers (with_word q l words.Int)) (token (kinds.Punct puncts.Colon) l) ≡ goes (in_width (record { body = body; specifiers = ended (with_word q l words.Int) l; members = t.no_more_members }) l t.no_declarator ∷ fs) operand
unfolding step specifiers_step end_specifiers end_listed member_step
member_ends limit least scope body q fs l = refl

-- a member without a name
pub width_completes : (limit : ℕ) (top : Place) (l : Pos) (least : ℕ) (fs : List Frame) → All limit top l least fs → (scope : Blocks) (part : MembersPart) → 2 + length fs ≤ limit → Takes limit top of_specifiers fs → Completes limit top l least scope (in_width part l t.no_declarator ∷ fs) operand
width_completes limit top l least fs all scope part room h = preceded limit top l least scope (in_width part l t.no_declarator ∷ fs) (in_width part l t.no_declarator ∷ fs) operand (have_expr (zero_tree l)) changes.Nothing (zero_token l) (zero_step limit least scope (in_width part l t.no_declarator ∷ fs) l (omega (arith, room)))
    (expr_closes limit top l least (in_width part l t.no_declarator) fs all scope (zero_tree l) (tt, room, h)).completes

ended_completes : (limit : ℕ) (top : Place) (l : Pos) (least : ℕ) (f : Frame) (fs : List Frame) → All limit top l least fs → (scope : Blocks) (q : Listing) → Takes limit top of_specifiers (f ∷ fs) → Completes limit top l least scope (f ∷ fs) (specifiers (with_word q l words.Int))
ended_completes limit top l least (in_type k purpose) fs all scope q h = (typed_closes limit top l least purpose k (t.type_name (ended (with_word q l words.Int) l).tree (t.nameless l)) fs all scope (specifiers (with_word q l words.Int)) (in_type k purpose ∷ fs) h.1 h.2 (type_ends limit least scope k purpose q fs l)).completes
ended_completes limit top l least (in_params part) fs all scope q h =
    let d = with_params (with_param part (ended (with_word q l words.Int) l).tree (t.nameless l)) false in
    preceded limit top l least scope (in_params part ∷ fs) fs (specifiers (with_word q l words.Int)) (have_declarator d) changes.Close (token (kinds.Punct puncts.CloseParen) l) (param_ends limit least scope part q fs l) (all.declared (changed changes.Close scope) d h.2).completes
ended_completes limit top l least (in_members body) fs all scope q h =
    let part : MembersPart = record { body = body; specifiers = ended (with_word q l words.Int) l; members = t.no_more_members } in
    preceded limit top l least scope (in_members body ∷ fs) (in_width part l t.no_declarator ∷ fs) (specifiers (with_word q l words.Int)) operand changes.Nothing (token (kinds.Punct puncts.Colon) l) (member_ends limit least scope body q fs l) (width_completes limit top l least fs all scope part h.1 h.2)
ended_completes limit top l least f fs all scope q h = absurd h.0

listed_completes : (limit : ℕ) (top : Place) (l : Pos) (least : ℕ) (f : Frame) (fs : List Frame) → All limit top l least fs → (scope : Blocks) (q : Listing) → Takes limit top of_specifiers (f ∷ fs) → Completes limit top l least scope (f ∷ fs) (specifiers q)
listed_completes limit top l least f fs all scope q h = preceded limit top l least scope (f ∷ fs) (f ∷ fs) (specifiers q) (specifiers (with_word q l words.Int)) changes.Nothing (int_token l) (int_step limit least scope (f ∷ fs) q l) (ended_completes limit top l least f fs all scope q h)

pub closes : (limit : ℕ) (top : Place) (l : Pos) (least : ℕ) (fs : List Frame) → All limit top l least fs
closes limit top l least [] = nothing_open limit top l least
closes limit top l least (f ∷ fs) =
    let all = closes limit top l least fs in
    record {
      expr = λ scope e h. expr_closes limit top l least f fs all scope e h;
      declared = λ scope d h. declarator_closes limit top l least f fs all scope d h;
      listed = λ scope q h. listed_completes limit top l least f fs all scope q h;
    }
