-- Where an operand is needed.
use Rattle.std.proofs.Common.{◌≡◌, ℕ, ◌≤◌, List, [], ◌∷◌, ◌++◌, Bool, true, false, refl, sym, ap, ◌∙◌, subst, arith}
use Rattle.std.specs.Prelude.{Option, None, Some, if◌then◌else◌}
use Rattle.c65_base.specs.declared.names.Name.{Name}
use Rattle.c65_base.specs.declared.operators.BinaryOp.{BinaryOp}
use Rattle.c65_base.specs.declared.operators.BinaryOp.TheVariants as ops
use Rattle.c65_base.specs.declared.operators.StepKind.TheVariants as steps
use Rattle.c65_base.specs.declared.operators.UnaryOp.TheVariants as unaries
use Rattle.c65_base.specs.declared.refusal.Pos.{Pos}
use Rattle.c65_scan.specs.declared.token.Punct.{Punct}
use Rattle.c65_scan.specs.declared.token.Token.{Token}
use Rattle.c65_scan.specs.declared.token.TokenKind.{TokenKind}
use Rattle.c65_scan.specs.declared.token.TokenKind.TheVariants as kinds
use Rattle.c65_tree.specs.Trees as t
use Rattle.c65_parse_trees.specs.declared.operator.Infix.{Infix}
use Rattle.c65_parse_trees.specs.declared.operator.Infix.TheVariants as infixes
use Rattle.c65_parse_trees.specs.declared.operator.Prefix.{Prefix}
use Rattle.c65_parse_trees.specs.declared.operator.Prefix.TheVariants as prefixes
use Rattle.c65_parse_trees.specs.declared.sign.Sign.{Sign}
use Rattle.c65_parse_trees.specs.declared.sign.Sign.TheVariants as signs
use Rattle.c65_parse_trees.specs.Levels.{level_of, level_of_binary, right_of_infix, right_of_prefix}
use Rattle.c65_parse_trees.specs.Signs.{prefix_of}
use Rattle.c65_parse_names.specs.Scopes.{Blocks}
use Rattle.c65_parse.specs.Frames.{Operation, in_prefix, in_cast, in_right, in_else, Frame, in_operation, Next, operand, opened, sizeof_word, have_expr}
use Rattle.c65_parse.specs.Expressions.{goes, within, has_room, names_type, leaf_of_kind, leaf_of, begin_by, begin_with, operand_step, hole_of, hole}
use Rattle.c65_parse_grammar.specs.Phrases.{token}
use Rattle.c65_parse_grammar.specs.Scopes.{Scope, after}
use Rattle.c65_parse_grammar.specs.Expressions as g
use Rattle.c65_parse_law_sound.proofs.Phrases.{some_is, no_none, both, is_one}
use Rattle.c65_parse_law_sound.proofs.Says.{Says, InfixSays}
use Rattle.c65_parse_law_sound.proofs.Places.{Start, scope_at, outer_at, prefix_mark, Stand}
use Rattle.c65_parse_law_sound.proofs.States.{Holds, Good}

pub good_within : (w : Start) (front : List Token) (tok : Token) (scope : Blocks) (b : Bool) (n : Next) → Good w front tok scope n → Good w front tok scope (within b n)
good_within w front tok scope true n h = h
good_within w front tok scope false n h = tt

pub good_if : (w : Start) (front : List Token) (tok : Token) (scope : Blocks) (b : Bool) (n m : Next) → (b ≡ true → Good w front tok scope n) → (b ≡ false → Good w front tok scope m) → Good w front tok scope (if b then n else m)
good_if w front tok scope true n m f h = f refl
good_if w front tok scope false n m f h = h refl

right_low : (op : BinaryOp) → level_of_binary op ≤ 12
right_low ops.Mul = omega arith
right_low ops.Div = omega arith
right_low ops.Rem = omega arith
right_low ops.Add = omega arith
right_low ops.Sub = omega arith
right_low ops.Shl = omega arith
right_low ops.Shr = omega arith
right_low ops.Lt = omega arith
right_low ops.Gt = omega arith
right_low ops.Le = omega arith
right_low ops.Ge = omega arith
right_low ops.Eq = omega arith
right_low ops.Ne = omega arith
right_low ops.BitAnd = omega arith
right_low ops.BitXor = omega arith
right_low ops.BitOr = omega arith

infix_low : (i : Infix) → right_of_infix i ≤ 14
infix_low (infixes.Binary op) = omega (arith, right_low op)
infix_low infixes.And = omega arith
infix_low infixes.Or = omega arith
infix_low (infixes.Assign op) = omega arith
infix_low infixes.Comma = omega arith

prefix_low : (p : Prefix) → right_of_prefix p ≤ 14
prefix_low (prefixes.Unary op) = omega arith
prefix_low (prefixes.Step how) = omega arith
prefix_low prefixes.Sizeof = omega arith

operation_low : (o : Operation) → hole_of o ≤ 14
operation_low (in_prefix l p) = prefix_low p
operation_low (in_cast l ty) = omega arith
operation_low (in_right l i a) = infix_low i
operation_low (in_else l c a) = omega arith

-- each place takes a unary expression
pub hole_low : (w : Start) (fs : List Frame) → Stand w fs → hole w.least fs ≤ 14
hole_low w [] h = omega arith
hole_low w (in_operation o ∷ fs) h = operation_low o
hole_low w (f ∷ fs) h = omega arith

record IsLeaf (sc : Scope) (l : Pos) (k : TokenKind) (e : t.ExprTree) : Type 0 where
  pub derives : g.expr sc e (token k l ∷ [])
  pub level : level_of e ≡ 15
  pub kept : after sc e ≡ sc

no_infix : (i : Infix) (n : Name) → InfixSays i (kinds.Name n) → ⊥
no_infix (infixes.Binary op) n s = cc
no_infix infixes.And n s = cc
no_infix infixes.Or n s = cc
no_infix (infixes.Assign None) n s = cc
no_infix (infixes.Assign (Some ops.Lt)) n s = s
no_infix (infixes.Assign (Some ops.Gt)) n s = s
no_infix (infixes.Assign (Some ops.Le)) n s = s
no_infix (infixes.Assign (Some ops.Ge)) n s = s
no_infix (infixes.Assign (Some ops.Eq)) n s = s
no_infix (infixes.Assign (Some ops.Ne)) n s = s
no_infix (infixes.Assign (Some op)) n s = cc
no_infix infixes.Comma n s = cc

name_is : (n m : Name) → kinds.Name n ≡ kinds.Name m → n ≡ m
name_is n m e = cc

name_punct : (n : Name) (p : Punct) → kinds.Name n ≡ kinds.Punct p → ⊥
name_punct n p e = cc

name_says : (sc : Name → Bool) (n : Name) (sign : Sign) → Says sc sign (kinds.Name n) → sc n ≡ names_type sign
name_says sc n (signs.Name m is_type) s = ap sc (name_is n m s.0) ∙ s.1
name_says sc n signs.Literal s = absurd s
name_says sc n signs.Other s = absurd s
name_says sc n (signs.Infix i) s = absurd (no_infix i n s)
name_says sc n (signs.Either u op) s = absurd (name_punct n _ s.0)
name_says sc n _ s = absurd cc

name_leaf : (sc : Scope) (l : Pos) (n : Name) (b : Bool) (e : t.ExprTree) → sc n ≡ b → leaf_of_kind l (kinds.Name n) b ≡ Some e → IsLeaf sc l (kinds.Name n) e
name_leaf sc l n true e s q = absurd (no_none e q)
name_leaf sc l n false e s q = subst (IsLeaf sc l (kinds.Name n)) (some_is (t.name l n) e q) (record { derives = (s, refl); level = refl; kept = refl })

leaf_is : (sc : Scope) (l : Pos) (k : TokenKind) (sign : Sign) → Says sc sign k → (e : t.ExprTree) → leaf_of_kind l k (names_type sign) ≡ Some e → IsLeaf sc l k e
leaf_is sc l (kinds.Keyword k) sign s e q = absurd (no_none e q)
leaf_is sc l (kinds.Name n) sign s e q = name_leaf sc l n (names_type sign) e (name_says sc n sign s) q
leaf_is sc l (kinds.Number ty n) sign s e q = subst (IsLeaf sc l (kinds.Number ty n)) (some_is (t.number l ty n) e q) (record { derives = refl; level = refl; kept = refl })
leaf_is sc l (kinds.Text bs) sign s e q = subst (IsLeaf sc l (kinds.Text bs)) (some_is (t.text l bs) e q) (record { derives = refl; level = refl; kept = refl })
leaf_is sc l (kinds.Punct p) sign s e q = absurd (no_none e q)
leaf_is sc l kinds.End sign s e q = absurd (no_none e q)

-- the token begins a construct
prefixed : (w : Start) (fs : List Frame) (front : List Token) (tok : Token) (scope : Blocks) (p : Prefix) → Holds w fs operand scope front → prefix_mark tok.pos p (tok ∷ []) → Holds w (in_operation (in_prefix tok.pos p) ∷ fs) operand scope (front ++ tok ∷ [])
prefixed w fs front tok scope p h m = record { scope_is = h.scope_is; stand = (hole_low w fs h.stand, h.stand); fits = tt; reads = both _ _ h.reads m }

prefix_good : (limit : ℕ) (w : Start) (fs : List Frame) (front : List Token) (tok : Token) (scope : Blocks) (p : Prefix) → Holds w fs operand scope front → prefix_mark tok.pos p (tok ∷ []) → Good w front tok scope (within (has_room limit fs 2) (goes (in_operation (in_prefix tok.pos p) ∷ fs) operand))
prefix_good limit w fs front tok scope p h m = good_within w front tok scope (has_room limit fs 2) (goes (in_operation (in_prefix tok.pos p) ∷ fs) operand) (prefixed w fs front tok scope p h m)

begin_by_good : (limit : ℕ) (w : Start) (fs : List Frame) (front : List Token) (tok : Token) (scope : Blocks) (sign : Sign) → Says (scope_at w fs) sign tok.kind → Holds w fs operand scope front → Good w front tok scope (begin_by limit fs tok.pos sign (prefix_of sign))
begin_by_good limit w fs front tok scope signs.Star s h = prefix_good limit w fs front tok scope (prefixes.Unary unaries.Deref) h (is_one tok _ s)
begin_by_good limit w fs front tok scope (signs.Unary op) s h = prefix_good limit w fs front tok scope (prefixes.Unary op) h (is_one tok _ s)
begin_by_good limit w fs front tok scope (signs.Either op between) s h = prefix_good limit w fs front tok scope (prefixes.Unary op) h (is_one tok _ s.0)
begin_by_good limit w fs front tok scope (signs.Step false) s h = prefix_good limit w fs front tok scope (prefixes.Step steps.PreInc) h (refl, is_one tok _ s)
begin_by_good limit w fs front tok scope (signs.Step true) s h = prefix_good limit w fs front tok scope (prefixes.Step steps.PreDec) h (refl, is_one tok _ s)
begin_by_good limit w fs front tok scope signs.Sizeof s h = good_within w front tok scope _ (goes fs (sizeof_word tok.pos)) (record { scope_is = h.scope_is; stand = h.stand; fits = tt; reads = both _ _ h.reads (is_one tok _ s) })
begin_by_good limit w fs front tok scope signs.Open s h = good_within w front tok scope _ (goes fs (opened tok.pos)) (record { scope_is = h.scope_is; stand = h.stand; fits = tt; reads = both _ _ h.reads (is_one tok _ s) })
begin_by_good limit w fs front tok scope _ s h = tt

begin_with_good : (limit : ℕ) (w : Start) (fs : List Frame) (front : List Token) (tok : Token) (scope : Blocks) (sign : Sign) → Says (scope_at w fs) sign tok.kind → Holds w fs operand scope front → (leaf : Option t.ExprTree) → leaf_of_kind tok.pos tok.kind (names_type sign) ≡ leaf → Good w front tok scope (begin_with limit fs tok.pos sign leaf)
begin_with_good limit w fs front tok scope sign s h (Some e) q =
    let leaf : IsLeaf (scope_at w fs) tok.pos tok.kind e = leaf_is (scope_at w fs) tok.pos tok.kind sign s e q in
    let low = hole_low w fs h.stand in
    let high = leaf.level in
    good_within w front tok scope _ (goes fs (have_expr e)) (record { scope_is = h.scope_is ∙ ap (λ b. b ∷ outer_at w fs) (sym leaf.kept); stand = h.stand; fits = tt; reads = both _ _ h.reads (omega (arith, low, high), leaf.derives) })
begin_with_good limit w fs front tok scope sign s h None q = begin_by_good limit w fs front tok scope sign s h

pub operand_good : (limit : ℕ) (w : Start) (fs : List Frame) (front : List Token) (tok : Token) (scope : Blocks) (sign : Sign) → Says (scope_at w fs) sign tok.kind → Holds w fs operand scope front → Good w front tok scope (operand_step limit fs tok sign)
unfolding operand_step
operand_good limit w fs front tok scope sign s h = begin_with_good limit w fs front tok scope sign s h (leaf_of tok (names_type sign)) refl
