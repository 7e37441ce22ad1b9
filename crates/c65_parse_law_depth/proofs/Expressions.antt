-- What a token asks of the limit where an expression is begun or goes on.
use Rattle.std.proofs.Common.{◌≡◌, ℕ, ◌+◌, ◌≤◌, List, [], ◌∷◌, length, Bool, true, false, refl, arith, if◌then◌else◌, nat_le}
use Rattle.std.specs.Prelude.{Option, None, Some}
use Rattle.std.proofs.lemmas.Bool.{leb-true}
use Rattle.c65_base.specs.declared.names.Name.{Name}
use Rattle.c65_base.specs.declared.operators.BinaryOp.{BinaryOp}
use Rattle.c65_base.specs.declared.operators.BinaryOp.TheVariants as ops
use Rattle.c65_base.specs.declared.operators.StepKind.{StepKind}
use Rattle.c65_base.specs.declared.operators.StepKind.TheVariants as steps
use Rattle.c65_base.specs.declared.refusal.Pos.{Pos}
use Rattle.c65_scan.specs.declared.token.Token.{Token}
use Rattle.c65_tree.specs.Trees as t
use Rattle.c65_tree.specs.Depth.{expr_depth}
use Rattle.c65_parse_trees.specs.declared.operator.Prefix.{Prefix}
use Rattle.c65_parse_trees.specs.declared.sign.Sign.{Sign}
use Rattle.c65_parse_trees.specs.declared.sign.Sign.TheVariants as signs
use Rattle.c65_parse_trees.specs.Levels.{level_of, level_of_binary, level_of_step}
use Rattle.c65_parse_trees.specs.Signs.{left_of, rank_of, infix_of, prefix_of}
use Rattle.c65_parse_trees.specs.Listings.{MembersPart, EnumPart}
use Rattle.c65_parse.specs.Frames.{Frame, in_operation, in_prefix, in_paren, in_index, in_call, in_then, in_bound, in_width, in_value, operand, opened, sizeof_word, have_expr}
use Rattle.c65_parse.specs.Expressions.{within, names_type, leaf_of, begin_by, begin_with, operand_step, hole, reduce, goes_on, extend_by, close_paren, close_index, close_call, close_then, close_bound, with_member, close_member, with_enumerator, close_enumerator, close, extend, expr_step}
use Rattle.c65_parse_law_depth.proofs.Needs.{IsGo, IsShallow, Needs, needs_nothing, fails_needs, room_needs, within_needs}

begin_by_needs : (fs : List Frame) (l : Pos) (sign : Sign) (o : Option Prefix) → Needs (λ limit. begin_by limit fs l sign o)
begin_by_needs fs l sign (Some p) = room_needs (2 + length fs) (in_operation (in_prefix l p) ∷ fs) operand
begin_by_needs fs l signs.Sizeof None = room_needs (2 + length fs) fs (sizeof_word l)
begin_by_needs fs l signs.Open None = room_needs (2 + length fs) fs (opened l)
begin_by_needs fs l _ None = fails_needs

begin_needs : (fs : List Frame) (l : Pos) (sign : Sign) (o : Option t.ExprTree) → Needs (λ limit. begin_with limit fs l sign o)
begin_needs fs l sign (Some e) = room_needs (1 + length fs) fs (have_expr e)
begin_needs fs l sign None = begin_by_needs fs l sign (prefix_of sign)

pub operand_needs : (fs : List Frame) (tok : Token) (sign : Sign) → Needs (λ limit. operand_step limit fs tok sign)
unfolding operand_step
operand_needs fs tok sign = begin_needs fs tok.pos sign (leaf_of tok (names_type sign))

-- no expression has the level of tokens that go on with none
binary_level : (op : BinaryOp) → level_of_binary op ≤ 15
binary_level ops.Mul = omega arith
binary_level ops.Div = omega arith
binary_level ops.Rem = omega arith
binary_level ops.Add = omega arith
binary_level ops.Sub = omega arith
binary_level ops.Shl = omega arith
binary_level ops.Shr = omega arith
binary_level ops.Lt = omega arith
binary_level ops.Gt = omega arith
binary_level ops.Le = omega arith
binary_level ops.Ge = omega arith
binary_level ops.Eq = omega arith
binary_level ops.Ne = omega arith
binary_level ops.BitAnd = omega arith
binary_level ops.BitXor = omega arith
binary_level ops.BitOr = omega arith

step_level : (how : StepKind) → level_of_step how ≤ 15
step_level steps.PreInc = omega arith
step_level steps.PreDec = omega arith
step_level steps.PostInc = omega arith
step_level steps.PostDec = omega arith

level_bound : (e : t.ExprTree) → level_of e ≤ 15
level_bound (t.step l how e) = step_level how
level_bound (t.binary l op a b) = binary_level op
level_bound _ = omega arith

never : (e : t.ExprTree) → nat_le 16 (level_of e) ≡ true → ⊥
never e h = let low = level_bound e in let high = leb-true 16 (level_of e) h in omega (arith, low, high)

-- what may go on with an expression does
extends : (e : t.ExprTree) (fs : List Frame) (l : Pos) (sign : Sign) → nat_le (left_of sign) (level_of e) ≡ true → IsGo (extend_by (infix_of sign) e fs l sign)
unfolding extend_by
extends e fs l signs.Open h = tt
extends e fs l signs.OpenBracket h = tt
extends e fs l (signs.Member arrow) h = tt
extends e fs l (signs.Step down) h = tt
extends e fs l signs.Star h = tt
extends e fs l (signs.Either before op) h = tt
extends e fs l (signs.Infix i) h = tt
extends e fs l signs.Question h = tt
extends e fs l signs.Comma h = tt
extends e fs l _ h = absurd (never e h)

paren_shallow : (l : Pos) (e : t.ExprTree) (fs : List Frame) (sign : Sign) → IsShallow (close_paren l e fs sign)
paren_shallow l e fs signs.Close = tt
paren_shallow l e fs _ = tt

index_shallow : (l : Pos) (a e : t.ExprTree) (fs : List Frame) (sign : Sign) → IsShallow (close_index l a e fs sign)
index_shallow l a e fs signs.CloseBracket = tt
index_shallow l a e fs _ = tt

call_shallow : (l : Pos) (f : t.ExprTree) (es : t.ExprList) (fs : List Frame) (sign : Sign) → IsShallow (close_call l f es fs sign)
call_shallow l f es fs signs.Close = tt
call_shallow l f es fs signs.Comma = tt
call_shallow l f es fs _ = tt

then_shallow : (l : Pos) (c e : t.ExprTree) (fs : List Frame) (sign : Sign) → IsShallow (close_then l c e fs sign)
then_shallow l c e fs signs.Colon = tt
then_shallow l c e fs _ = tt

bound_shallow : (l : Pos) (d : t.DeclaratorTree) (e : t.ExprTree) (fs : List Frame) (sign : Sign) → IsShallow (close_bound l d e fs sign)
bound_shallow l d e fs signs.CloseBracket = tt
bound_shallow l d e fs _ = tt

pub member_shallow : (part : MembersPart) (fs : List Frame) (sign : Sign) → IsShallow (close_member part fs sign)
unfolding close_member
member_shallow part fs signs.Comma = tt
member_shallow part fs signs.Semicolon = tt
member_shallow part fs _ = tt

pub enumerator_shallow : (part : EnumPart) (n : Name) (fs : List Frame) (sign : Sign) → IsShallow (close_enumerator part n fs sign)
unfolding close_enumerator
enumerator_shallow part n fs signs.Comma = tt
enumerator_shallow part n fs signs.CloseBrace = tt
enumerator_shallow part n fs _ = tt

close_shallow : (e : t.ExprTree) (fs : List Frame) (sign : Sign) → IsShallow (close e fs sign)
unfolding close
close_shallow e [] sign = tt
close_shallow e (in_paren l ∷ fs) sign = paren_shallow l e fs sign
close_shallow e (in_index l a ∷ fs) sign = index_shallow l a e fs sign
close_shallow e (in_call l f es ∷ fs) sign = call_shallow l f (t.and_expr es e) fs sign
close_shallow e (in_then l c ∷ fs) sign = then_shallow l c e fs sign
close_shallow e (in_bound l d ∷ fs) sign = bound_shallow l d e fs sign
close_shallow e (in_width part first d ∷ fs) sign = member_shallow (with_member part first d (t.an_expr e)) fs sign
close_shallow e (in_value part n l ∷ fs) sign = enumerator_shallow (with_enumerator part n l (t.an_expr e)) n fs sign
close_shallow e (f ∷ fs) sign = tt

first_true : (a b : Bool) → (if a then b else false) ≡ true → a ≡ true
first_true true b h = refl
first_true false b h = h

pick_needs : (least : ℕ) (e : t.ExprTree) (fs : List Frame) (l : Pos) (sign : Sign) (b : Bool) → goes_on least e fs sign ≡ b → Needs (λ limit. if b then within (nat_le (expr_depth e + (length fs + 1)) limit) (extend_by (infix_of sign) e fs l sign) else close e fs sign)
pick_needs least e fs l sign true h = within_needs (expr_depth e + (length fs + 1)) (extend_by (infix_of sign) e fs l sign) (extends e fs l sign (first_true (nat_le (left_of sign) (level_of e)) (nat_le (hole least fs) (rank_of sign)) h))
pick_needs least e fs l sign false h = needs_nothing (close e fs sign) (close_shallow e fs sign)

extend_needs : (least : ℕ) (e : t.ExprTree) (fs : List Frame) (l : Pos) (sign : Sign) → Needs (λ limit. extend limit least e fs l sign)
extend_needs least e fs l sign = pick_needs least e fs l sign (goes_on least e fs sign) refl

pub expr_needs : (least : ℕ) (e : t.ExprTree) (fs : List Frame) (l : Pos) (sign : Sign) → Needs (λ limit. expr_step limit least e fs l sign)
unfolding expr_step
expr_needs least e fs l sign = extend_needs least (reduce (rank_of sign) e fs).0 (reduce (rank_of sign) e fs).1 l sign
