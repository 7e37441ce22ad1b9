-- Operators on two integers (C90 6.3.5 to 6.3.12).
use Rattle.c65_base.specs.declared.operators.BinaryOp.{BinaryOp}
use Rattle.c65_base.specs.declared.operators.BinaryOp.TheVariants as ops
use Rattle.c65_ints.specs.declared.types.IntType.{IntType}
use Rattle.c65_ints.specs.declared.types.IntType.TheVariants as ints
use Rattle.c65_ctype.specs.Trees.{int, QTy}
use Rattle.c65_csem.specs.Trees.{Typed, node, binary}
use Rattle.c65_csem.specs.Places.{plain}
use Rattle.c65_elab_convert.specs.declared.numbers.Group.{Group}
use Rattle.c65_elab_convert.specs.declared.numbers.Group.TheVariants.{Arithmetic, Add, Subtract, Shift, Order, Equality}
use Rattle.c65_elab_convert.specs.Values.{common_of, as_int_of}

abbrev pub group_of : BinaryOp → Group
group_of ops.Mul = Arithmetic
group_of ops.Div = Arithmetic
group_of ops.Rem = Arithmetic
group_of ops.Add = Add
group_of ops.Sub = Subtract
group_of ops.Shl = Shift
group_of ops.Shr = Shift
group_of ops.Lt = Order
group_of ops.Gt = Order
group_of ops.Le = Order
group_of ops.Ge = Order
group_of ops.Eq = Equality
group_of ops.Ne = Equality
group_of ops.BitAnd = Arithmetic
group_of ops.BitXor = Arithmetic
group_of ops.BitOr = Arithmetic

abbrev pub joined : BinaryOp → QTy → Typed → Typed → Typed
joined op t a b = node t (binary op a b)

abbrev pub converted : BinaryOp → IntType → IntType → IntType → Typed → Typed → Typed
converted op t j k a b = joined op (plain (int t)) (as_int_of j a) (as_int_of k b)

-- A shift has the type of its left operand, a comparison is int, and the others have the common type.
abbrev pub numbers_by : BinaryOp → Group → IntType → IntType → Typed → Typed → Typed
numbers_by op Shift j k a b = converted op j j k a b
numbers_by op Order j k a b = converted op ints.Int (common_of j k) (common_of j k) a b
numbers_by op Equality j k a b = converted op ints.Int (common_of j k) (common_of j k) a b
numbers_by op Arithmetic j k a b = converted op (common_of j k) (common_of j k) (common_of j k) a b
numbers_by op Add j k a b = converted op (common_of j k) (common_of j k) (common_of j k) a b
numbers_by op Subtract j k a b = converted op (common_of j k) (common_of j k) (common_of j k) a b

-- on operands whose promoted types are j and k
abbrev pub on_numbers : BinaryOp → IntType → IntType → Typed → Typed → Typed
on_numbers op j k a b = numbers_by op (group_of op) j k a b
