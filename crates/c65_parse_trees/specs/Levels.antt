-- How tightly operators hold together, from 15, what needs no parentheses anywhere, to 0, an operation with a comma.
use Rattle.std.specs.Prelude.{ℕ, ◌+◌}
use Rattle.c65_base.specs.declared.operators.BinaryOp.{BinaryOp}
use Rattle.c65_base.specs.declared.operators.BinaryOp.TheVariants as ops
use Rattle.c65_base.specs.declared.operators.StepKind.{StepKind}
use Rattle.c65_base.specs.declared.operators.StepKind.TheVariants as steps
use Rattle.c65_parse_trees.specs.declared.operator.Infix.{Infix}
use Rattle.c65_parse_trees.specs.declared.operator.Infix.TheVariants as infixes
use Rattle.c65_parse_trees.specs.declared.operator.Prefix.{Prefix}
use Rattle.c65_parse_trees.specs.declared.operator.Prefix.TheVariants as prefixes
use Rattle.c65_tree.specs.Trees.{ExprTree, name, number, text, paren, index, call, member, step, unary, sizeof_expr, sizeof_type, cast, binary, and_also, or_else, conditional, assign, comma}

-- C90 6.3.5 to 6.3.12
abbrev pub level_of_binary : BinaryOp → ℕ
level_of_binary ops.Mul = 12
level_of_binary ops.Div = 12
level_of_binary ops.Rem = 12
level_of_binary ops.Add = 11
level_of_binary ops.Sub = 11
level_of_binary ops.Shl = 10
level_of_binary ops.Shr = 10
level_of_binary ops.Lt = 9
level_of_binary ops.Gt = 9
level_of_binary ops.Le = 9
level_of_binary ops.Ge = 9
level_of_binary ops.Eq = 8
level_of_binary ops.Ne = 8
level_of_binary ops.BitAnd = 7
level_of_binary ops.BitXor = 6
level_of_binary ops.BitOr = 5

-- C90 6.3.5 to 6.3.17
abbrev pub level_of_infix : Infix → ℕ
level_of_infix (infixes.Binary op) = level_of_binary op
level_of_infix infixes.And = 4
level_of_infix infixes.Or = 3
level_of_infix (infixes.Assign op) = 1
level_of_infix infixes.Comma = 0

-- the least level of a left operand: only a unary expression is assigned to (C90 6.3.16)
abbrev pub left_of_infix : Infix → ℕ
left_of_infix (infixes.Binary op) = level_of_binary op
left_of_infix infixes.And = 4
left_of_infix infixes.Or = 3
left_of_infix (infixes.Assign op) = 14
left_of_infix infixes.Comma = 0

-- the least level of a right operand: assignments alone group from the right
abbrev pub right_of_infix : Infix → ℕ
right_of_infix (infixes.Binary op) = level_of_binary op + 1
right_of_infix infixes.And = 5
right_of_infix infixes.Or = 4
right_of_infix (infixes.Assign op) = 1
right_of_infix infixes.Comma = 1

-- the least level of an operand behind its operator (C90 6.3.3)
abbrev pub right_of_prefix : Prefix → ℕ
right_of_prefix (prefixes.Unary op) = 13
right_of_prefix (prefixes.Step how) = 14
right_of_prefix prefixes.Sizeof = 14

-- C90 6.3.2.4, 6.3.3.1
abbrev pub level_of_step : StepKind → ℕ
level_of_step steps.PreInc = 14
level_of_step steps.PreDec = 14
level_of_step steps.PostInc = 15
level_of_step steps.PostDec = 15

abbrev pub level_of : ExprTree → ℕ
level_of (name p n) = 15
level_of (number p t n) = 15
level_of (text p bs) = 15
level_of (paren p e) = 15
level_of (index p a i) = 15
level_of (call p f es) = 15
level_of (member p e arrow n) = 15
level_of (step p how e) = level_of_step how
level_of (unary p op e) = 14
level_of (sizeof_expr p e) = 14
level_of (sizeof_type p t) = 14
level_of (cast p t e) = 13
level_of (binary p op a b) = level_of_binary op
level_of (and_also p a b) = 4
level_of (or_else p a b) = 3
level_of (conditional p c a b) = 2
level_of (assign p op a b) = 1
level_of (comma p a b) = 0
