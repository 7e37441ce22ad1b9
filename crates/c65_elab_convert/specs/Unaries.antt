-- Operators of one operand (C90 6.3.3).
use Rattle.std.specs.Prelude.{Bool, true, false, ◌&&◌, not, Option, Some, None, Result, Ok, Err, if◌then◌else◌}
use Rattle.c65_base.specs.declared.code.Code.TheVariants.{Operands, NotModifiable, BitField, RegisterAddress}
use Rattle.c65_base.specs.declared.refusal.Pos.{Pos}
use Rattle.c65_base.specs.declared.operators.UnaryOp.{UnaryOp}
use Rattle.c65_base.specs.declared.operators.UnaryOp.TheVariants as ones
use Rattle.c65_base.specs.Answers.{Fault, at, ◌>>=◌}
use Rattle.c65_ints.specs.declared.types.IntType.{IntType}
use Rattle.c65_ints.specs.declared.types.IntType.TheVariants as ints
use Rattle.c65_ctype.specs.Trees.{Ty, int, pointer, QTy, type_in, TypesTy}
use Rattle.c65_csem.specs.Trees.{Typed, node, Node, func, deref, address, unary, type_of}
use Rattle.c65_csem.specs.Places.{plain, is_void, is_bit_field}
use Rattle.c65_elab_convert.specs.declared.classes.Category.{Category}
use Rattle.c65_elab_convert.specs.declared.classes.Category.TheVariants as categories
use Rattle.c65_elab_convert.specs.Categories.{category_in, unfit_operand, is_lvalue, is_spilled}
use Rattle.c65_elab_convert.specs.Values.{value_of, promotion, as_int_of}

abbrev pub single : UnaryOp → IntType → Typed → Typed
single op k e = node (plain (int k)) (unary op e)

abbrev pub changed : UnaryOp → IntType → Typed → Typed
changed op k e = single op k (as_int_of k e)

abbrev pub value_by : TypesTy → Pos → UnaryOp → Category → Typed → Result Typed Fault
value_by types p ones.Neg (categories.Int k) e = Ok (changed ones.Neg (promotion types e k) e)
value_by types p ones.BitNot (categories.Int k) e = Ok (changed ones.BitNot (promotion types e k) e)
value_by types p ones.Plus (categories.Int k) e = Ok (as_int_of (promotion types e k) e)
value_by types p ones.Not (categories.Int k) e = Ok (single ones.Not ints.Int e)
value_by types p ones.Not categories.Pointer e = Ok (single ones.Not ints.Int e)
value_by types p _ _ e = Err (at (unfit_operand Operands e) p)

abbrev pub on_value : TypesTy → Pos → UnaryOp → Typed → Result Typed Fault
on_value types p op e = value_by types p op (category_in e) e

abbrev pub target_of : Ty → Option QTy
target_of (pointer q) = Some q
target_of _ = None

abbrev pub pointed_by : Pos → Option QTy → Typed → Result Typed Fault
pointed_by p (Some q) e = Ok (node q (deref e))
pointed_by p None e = Err (at (unfit_operand Operands e) p)

-- what a value points to
abbrev pub pointed : Pos → Typed → Result Typed Fault
pointed p e = pointed_by p (target_of (type_in (type_of e))) e

abbrev pub deref_of : Pos → Typed → Result Typed Fault
deref_of p e = pointed p (value_of e)

-- a function designator, or an lvalue
abbrev pub has_address : Typed → Bool
has_address (node t (func i)) = true
has_address (node t e) = is_lvalue (node t e) && not (is_void (type_in t))

abbrev pub pointer_from : Typed → Typed
pointer_from e = node (plain (pointer (type_of e))) (address e)

-- what a call gave has no address (C90 6.3.2.2)
abbrev pub address_of : TypesTy → Pos → Bool → Typed → Result Typed Fault
address_of types p register e = if is_spilled e then Err (at Operands p) else if has_address e then (if is_bit_field types e then Err (at BitField p) else if register then Err (at RegisterAddress p) else Ok (pointer_from e)) else Err (at NotModifiable p)

abbrev pub unary_of : TypesTy → Pos → UnaryOp → Bool → Typed → Result Typed Fault
unary_of types p ones.Deref register e = deref_of p e
unary_of types p ones.Address register e = address_of types p register e
unary_of types p ones.Neg register e = on_value types p ones.Neg (value_of e)
unary_of types p ones.Plus register e = on_value types p ones.Plus (value_of e)
unary_of types p ones.BitNot register e = on_value types p ones.BitNot (value_of e)
unary_of types p ones.Not register e = on_value types p ones.Not (value_of e)
