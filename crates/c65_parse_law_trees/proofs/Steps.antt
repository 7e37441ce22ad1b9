-- What a token does where an operand is needed, and behind an expression.
use Rattle.std.proofs.Common.{◌≡◌, ℕ, ◌+◌, ◌<◌, ◌≤◌, List, [], ◌∷◌, length, Bool, true, false, refl, ap, ◌∙◌, arith}
use Rattle.std.proofs.lemmas.Bool.{le-leb, lt-leb, lt-ltb, le-ltb}
use Rattle.std.specs.Prelude.{nat_le, if◌then◌else◌, None, Some}
use Rattle.c65_base.specs.declared.operators.BinaryOp.{BinaryOp}
use Rattle.c65_base.specs.declared.operators.BinaryOp.TheVariants as ops
use Rattle.c65_base.specs.declared.operators.StepKind.{StepKind}
use Rattle.c65_base.specs.declared.operators.StepKind.TheVariants as kinds_of_step
use Rattle.c65_base.specs.declared.refusal.Pos.{Pos}
use Rattle.c65_scan.specs.declared.token.Token.{Token}
use Rattle.c65_scan.specs.declared.token.TokenKind.{TokenKind}
use Rattle.c65_scan.specs.declared.token.TokenKind.TheVariants as kinds
use Rattle.c65_tree.specs.Trees as t
use Rattle.c65_tree.specs.Depth.{expr_depth}
use Rattle.c65_parse_trees.specs.declared.operator.Prefix.{Prefix}
use Rattle.c65_parse_trees.specs.declared.sign.Sign.{Sign}
use Rattle.c65_parse_trees.specs.Levels.{level_of, level_of_binary, level_of_step}
use Rattle.c65_parse_trees.specs.Signs.{sign_of_kind, left_of, rank_of, infix_of, prefix_of}
use Rattle.c65_parse_names.specs.Scopes.{Blocks}
use Rattle.c65_parse.specs.Frames.{Operation, Frame, in_operation, in_prefix, Next, operand, have_expr}
use Rattle.c65_parse.specs.Expressions.{goes, within, names_type, leaf_of, begin_by, begin_with, operand_step, hole_of, hole, ends, plug, plug_frame, reduce, goes_on, extend_by, extend, close, expr_step}
use Rattle.c65_parse.specs.Machine.{run}
use Rattle.c65_parse_grammar.specs.Scopes.{Scope}
use Rattle.c65_parse_law_trees.specs.Tokens.{rank}
use Rattle.c65_parse_law_trees.proofs.Edges.{Follows}
use Rattle.c65_parse_law_trees.proofs.Runs.{First, same}

pub roomy : (limit : ℕ) (a : ℕ) (n : Next) → a ≤ limit → within (nat_le a limit) n ≡ n
roomy limit a n h = ap (λ b. within b n) (le-leb a limit h)

-- a whole operand
pub leaf_goes : (limit : ℕ) (fs : List Frame) (tok : Token) (sign : Sign) (e : t.ExprTree) → leaf_of tok (names_type sign) ≡ Some e → 1 + length fs ≤ limit → operand_step limit fs tok sign ≡ goes fs (have_expr e)
unfolding operand_step
leaf_goes limit fs tok sign e h r = ap (begin_with limit fs tok.pos sign) h ∙ roomy limit (1 + length fs) (goes fs (have_expr e)) r

-- an operator before its operand
pub prefix_goes : (limit : ℕ) (fs : List Frame) (tok : Token) (sign : Sign) (p : Prefix) → leaf_of tok (names_type sign) ≡ None → prefix_of sign ≡ Some p → 2 + length fs ≤ limit → operand_step limit fs tok sign ≡ goes (in_operation (in_prefix tok.pos p) ∷ fs) operand
unfolding operand_step
prefix_goes limit fs tok sign p h k r = ap (begin_with limit fs tok.pos sign) h ∙ (ap (begin_by limit fs tok.pos sign) k ∙ roomy limit (2 + length fs) (goes (in_operation (in_prefix tok.pos p) ∷ fs) operand) r)

binary_high : (op : BinaryOp) → level_of_binary op ≤ 12
binary_high ops.Mul = omega arith
binary_high ops.Div = omega arith
binary_high ops.Rem = omega arith
binary_high ops.Add = omega arith
binary_high ops.Sub = omega arith
binary_high ops.Shl = omega arith
binary_high ops.Shr = omega arith
binary_high ops.Lt = omega arith
binary_high ops.Gt = omega arith
binary_high ops.Le = omega arith
binary_high ops.Ge = omega arith
binary_high ops.Eq = omega arith
binary_high ops.Ne = omega arith
binary_high ops.BitAnd = omega arith
binary_high ops.BitXor = omega arith
binary_high ops.BitOr = omega arith

binary_low : (op : BinaryOp) → 5 ≤ level_of_binary op
binary_low ops.Mul = omega arith
binary_low ops.Div = omega arith
binary_low ops.Rem = omega arith
binary_low ops.Add = omega arith
binary_low ops.Sub = omega arith
binary_low ops.Shl = omega arith
binary_low ops.Shr = omega arith
binary_low ops.Lt = omega arith
binary_low ops.Gt = omega arith
binary_low ops.Le = omega arith
binary_low ops.Ge = omega arith
binary_low ops.Eq = omega arith
binary_low ops.Ne = omega arith
binary_low ops.BitAnd = omega arith
binary_low ops.BitXor = omega arith
binary_low ops.BitOr = omega arith

pub binary_between : (op : BinaryOp) → (5 ≤ level_of_binary op) × (level_of_binary op ≤ 12)
binary_between op = (binary_low op, binary_high op)

step_high : (how : StepKind) → level_of_step how ≤ 15
step_high kinds_of_step.PreInc = omega arith
step_high kinds_of_step.PreDec = omega arith
step_high kinds_of_step.PostInc = omega arith
step_high kinds_of_step.PostDec = omega arith

pub level_high : (e : t.ExprTree) → level_of e ≤ 15
level_high (t.binary l op a b) = omega (arith, binary_high op)
level_high (t.step l how e) = step_high how
level_high (t.name l n) = omega arith
level_high (t.number l ty n) = omega arith
level_high (t.text l bs) = omega arith
level_high (t.paren l e) = omega arith
level_high (t.index l a i) = omega arith
level_high (t.call l f es) = omega arith
level_high (t.member l e arrow n) = omega arith
level_high (t.unary l op e) = omega arith
level_high (t.sizeof_expr l e) = omega arith
level_high (t.sizeof_type l ty) = omega arith
level_high (t.cast l ty e) = omega arith
level_high (t.and_also l a b) = omega arith
level_high (t.or_else l a b) = omega arith
level_high (t.conditional l c a b) = omega arith
level_high (t.assign l op a b) = omega arith
level_high (t.comma l a b) = omega arith

-- what is open takes no less than the operator makes
stays : (rank least : ℕ) (e : t.ExprTree) (fs : List Frame) → hole least fs ≤ rank → reduce rank e fs ≡ (e, fs)
stays rank least e [] h = refl
stays rank least e (in_operation o ∷ fs) h = ap (λ b. if b then reduce rank (plug o e) fs else (e, in_operation o ∷ fs)) (le-ltb rank (hole_of o) h)
stays rank least e (_ ∷ fs) h = refl

extended : (limit : ℕ) (least : ℕ) (e : t.ExprTree) (fs : List Frame) (l : Pos) (sign : Sign) → hole least fs ≤ rank_of sign → left_of sign ≤ level_of e → expr_depth e + (length fs + 1) ≤ limit → extend limit least e fs l sign ≡ extend_by (infix_of sign) e fs l sign
extended limit least e fs l sign a b c = ap (λ x. if (if x then nat_le (hole least fs) (rank_of sign) else false) then within (nat_le (expr_depth e + (length fs + 1)) limit) (extend_by (infix_of sign) e fs l sign) else close e fs sign) (le-leb (left_of sign) (level_of e) b)
    ∙ (ap (λ x. if x then within (nat_le (expr_depth e + (length fs + 1)) limit) (extend_by (infix_of sign) e fs l sign) else close e fs sign) (le-leb (hole least fs) (rank_of sign) a)
    ∙ roomy limit (expr_depth e + (length fs + 1)) (extend_by (infix_of sign) e fs l sign) c)

-- an operator goes on with the expression
pub extends : (limit : ℕ) (least : ℕ) (e : t.ExprTree) (fs : List Frame) (l : Pos) (sign : Sign) → hole least fs ≤ rank_of sign → left_of sign ≤ level_of e → expr_depth e + (length fs + 1) ≤ limit → expr_step limit least e fs l sign ≡ extend_by (infix_of sign) e fs l sign
unfolding expr_step
extends limit least e fs l sign a b c = ap (λ (r : t.ExprTree × List Frame). extend limit least r.0 r.1 l sign) (stays (rank_of sign) least e fs a) ∙ extended limit least e fs l sign a b c

pub no_operator : (least : ℕ) (e : t.ExprTree) (fs : List Frame) (sign : Sign) → left_of sign ≡ 16 → goes_on least e fs sign ≡ false
no_operator least e fs sign h = ap (λ x. if x then nat_le (hole least fs) (rank_of sign) else false) (lt-leb (left_of sign) (level_of e) (let k = level_high e in omega (arith, h, k)))

either_way : (b c : Bool) → c ≡ false → (if b then c else false) ≡ false
either_way true c h = h
either_way false c h = refl

pub low_operator : (least : ℕ) (e : t.ExprTree) (fs : List Frame) (sign : Sign) → rank_of sign < hole least fs → goes_on least e fs sign ≡ false
low_operator least e fs sign h = either_way (nat_le (left_of sign) (level_of e)) (nat_le (hole least fs) (rank_of sign)) (lt-leb (hole least fs) (rank_of sign) h)

-- the expression is whole in its place
pub closes : (limit : ℕ) (least : ℕ) (e : t.ExprTree) (f : Frame) (fs : List Frame) (l : Pos) (sign : Sign) → ends (rank_of sign) f ≡ false → goes_on least e (f ∷ fs) sign ≡ false → expr_step limit least e (f ∷ fs) l sign ≡ close e (f ∷ fs) sign
unfolding expr_step
closes limit least e f fs l sign a b = ap (λ x. let r : t.ExprTree × List Frame = if x then reduce (rank_of sign) (plug_frame f e) fs else (e, f ∷ fs) in extend limit least r.0 r.1 l sign) a
    ∙ ap (λ x. if x then within (nat_le (expr_depth e + (length (f ∷ fs) + 1)) limit) (extend_by (infix_of sign) e (f ∷ fs) l sign) else close e (f ∷ fs) sign) b

pub rank_same : (sc : Scope) (k : TokenKind) → rank_of (sign_of_kind sc k) ≡ rank k
rank_same sc (kinds.Keyword k) = refl
rank_same sc (kinds.Name n) = refl
rank_same sc (kinds.Number ty n) = refl
rank_same sc (kinds.Text bs) = refl
rank_same sc (kinds.Punct p) = refl
rank_same sc kinds.End = refl

absorbed : (limit : ℕ) (least : ℕ) (o : Operation) (e : t.ExprTree) (fs : List Frame) (l : Pos) (sign : Sign) → rank_of sign < hole_of o → expr_step limit least e (in_operation o ∷ fs) l sign ≡ expr_step limit least (plug o e) fs l sign
unfolding expr_step
absorbed limit least o e fs l sign h = ap (λ x. let r : t.ExprTree × List Frame = if x then reduce (rank_of sign) (plug o e) fs else (e, in_operation o ∷ fs) in extend limit least r.0 r.1 l sign) (lt-ltb (rank_of sign) (hole_of o) h)

ends_operation : (limit : ℕ) (least : ℕ) (sc : Scope) (o : Operation) (e : t.ExprTree) (fs : List Frame) (n : ℕ) (tok : Token) → rank tok.kind ≤ n → n < hole_of o
    → expr_step limit least e (in_operation o ∷ fs) tok.pos (sign_of_kind sc tok.kind) ≡ expr_step limit least (plug o e) fs tok.pos (sign_of_kind sc tok.kind)
ends_operation limit least sc o e fs n tok f h = absorbed limit least o e fs tok.pos (sign_of_kind sc tok.kind) (let s = rank_same sc tok.kind in omega (arith, f, h, s))

first_ends : (limit : ℕ) (least : ℕ) (sc : Scope) (o : Operation) (e : t.ExprTree) (fs : List Frame) (n : ℕ) (ts : List Token) → Follows n ts → n < hole_of o
    → First (λ tok. expr_step limit least e (in_operation o ∷ fs) tok.pos (sign_of_kind sc tok.kind) ≡ expr_step limit least (plug o e) fs tok.pos (sign_of_kind sc tok.kind)) ts
first_ends limit least sc o e fs n [] f h = tt
first_ends limit least sc o e fs n (tok ∷ ts) f h = ends_operation limit least sc o e fs n tok f h

-- an operation ends before an operator that makes less than its last operand has to be
pub absorbs : (limit : ℕ) (least : ℕ) (sc : Scope) (outer : Blocks) (o : Operation) (e : t.ExprTree) (fs : List Frame) (n : ℕ) (ts : List Token) → Follows n ts → n < hole_of o
    → run limit least (sc ∷ outer) (in_operation o ∷ fs) (have_expr e) ts ≡ run limit least (sc ∷ outer) fs (have_expr (plug o e)) ts
absorbs limit least sc outer o e fs n ts f h = same limit least sc outer (in_operation o ∷ fs) fs (have_expr e) (have_expr (plug o e)) ts (first_ends limit least sc o e fs n ts f h)
