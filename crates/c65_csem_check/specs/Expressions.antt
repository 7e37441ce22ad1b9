-- Tests on typed expressions: each is true exactly where the rule of its construct holds (C90 6.3).
use Rattle.std.specs.Prelude.{ℕ, ◌+◌, List, length, Bool, true, false, not, ◌||◌, ◌&&◌, Option, Some, None, is_some, slice_get, nat_le, int_le, if◌then◌else◌}
use Rattle.c65_base.specs.declared.operators.UnaryOp.{UnaryOp}
use Rattle.c65_base.specs.declared.operators.UnaryOp.TheVariants.{Neg, BitNot, Not}
use Rattle.c65_base.specs.declared.operators.BinaryOp.{BinaryOp}
use Rattle.c65_base.specs.declared.operators.BinaryOp.TheVariants as ops
use Rattle.c65_ints.specs.declared.types.IntType.{IntType}
use Rattle.c65_ints.specs.declared.types.IntType.TheVariants.{Int}
use Rattle.c65_ints.specs.Ranges.{least_of, greatest_of}
use Rattle.std.specs.Prelude.{ℤ}
use Rattle.c65_ctype.specs.Trees.{Ty, void, int, pointer, array, tag, function, QTy, qual, type_in, Fn, fn, Params, unknown, known, QTys, end, more, MemberTy, TypesTy}
use Rattle.c65_csem.specs.declared.items.Class.{Class}
use Rattle.c65_csem.specs.declared.items.Class.TheVariants.{Auto}
use Rattle.c65_csem.specs.Trees.{Typed, node, Node, constant, null, literal, object, func, deref, member, load, address, decay, convert, unary, binary, both, either, choice, comma, assign, assign_op, assign_step, step, copy, call, pack, spill, rest, Nodes, none, some, type_of, ObjectTy, FuncTy, UnitTy}
use Rattle.c65_csem.specs.Places.{is_place, is_promoted, is_scalar, is_tag, member_at, is_bit_field, is_registered, are_alike}
use Rattle.c65_csem.specs.Typed.{result_of}
use Rattle.c65_csem_check.specs.Kinds.{same, same_ty, int_of, is_int_of, is_int, is_promoted_int, is_bare, is_plain_void, is_plain_pointer, is_plain_of, is_plain_scalar, is_pointer_to, is_moved, is_plain_small, is_usual, passes, is_rest, flat_bytes, is_stepped, is_decayed, is_literal, is_qualified}

-- Operands.

-- both operands and the result of one promoted type
abbrev pub numbers_by : Option IntType → QTy → QTy → Bool
numbers_by None a b = false
numbers_by (Some k) a b = is_promoted k && is_int_of a k && is_int_of b k

abbrev pub are_numbers : QTy → QTy → QTy → Bool
are_numbers t a b = numbers_by (int_of t) a b

abbrev pub are_shifted : QTy → QTy → QTy → Bool
are_shifted t a b = is_promoted_int a && is_promoted_int b && same t a

abbrev pub are_compared : QTy → QTy → QTy → Bool
are_compared t a b = is_int_of t Int && (numbers_by (int_of a) a b || (is_plain_pointer a && is_plain_pointer b))

abbrev pub are_added : TypesTy → QTy → QTy → QTy → Bool
are_added types t a b = are_numbers t a b || (is_moved types a && is_int b && same t a) || (is_int a && is_moved types b && same t b)

abbrev pub are_subtracted : TypesTy → QTy → QTy → QTy → Bool
are_subtracted types t a b = are_numbers t a b || (is_moved types a && is_int b && same t a) || (is_moved types a && is_moved types b && is_int_of t Int)

abbrev pub operands : TypesTy → BinaryOp → QTy → QTy → QTy → Bool
operands types ops.Mul t a b = are_numbers t a b
operands types ops.Div t a b = are_numbers t a b
operands types ops.Rem t a b = are_numbers t a b
operands types ops.Add t a b = are_added types t a b
operands types ops.Sub t a b = are_subtracted types t a b
operands types ops.Shl t a b = are_shifted t a b
operands types ops.Shr t a b = are_shifted t a b
operands types ops.Lt t a b = are_compared t a b
operands types ops.Gt t a b = are_compared t a b
operands types ops.Le t a b = are_compared t a b
operands types ops.Ge t a b = are_compared t a b
operands types ops.Eq t a b = are_compared t a b
operands types ops.Ne t a b = are_compared t a b
operands types ops.BitAnd t a b = are_numbers t a b
operands types ops.BitXor t a b = are_numbers t a b
operands types ops.BitOr t a b = are_numbers t a b

abbrev pub operand : UnaryOp → QTy → QTy → Bool
operand Neg t a = is_promoted_int a && same t a
operand BitNot t a = is_promoted_int a && same t a
operand Not t a = is_int_of t Int && is_plain_scalar a
operand _ t a = false

abbrev pub computes : BinaryOp → IntType → QTy → Bool
computes ops.Mul k b = is_int_of b k
computes ops.Div k b = is_int_of b k
computes ops.Rem k b = is_int_of b k
computes ops.Add k b = is_int_of b k
computes ops.Sub k b = is_int_of b k
computes ops.Shl k b = is_promoted_int b
computes ops.Shr k b = is_promoted_int b
computes ops.BitAnd k b = is_int_of b k
computes ops.BitXor k b = is_int_of b k
computes ops.BitOr k b = is_int_of b k
computes _ k b = false

abbrev pub steps : BinaryOp → Bool
steps ops.Add = true
steps ops.Sub = true
steps _ = false

-- Values and places.

abbrev pub is_value : Typed → Bool
is_value e = is_plain_scalar (type_of e) && not (is_place e)

abbrev pub is_scalar_place : Typed → Bool
is_scalar_place e = is_place e && is_scalar (type_in (type_of e))

abbrev pub converts : QTy → Typed → Bool
converts t e = (is_plain_scalar t && is_value e) || is_plain_void t

abbrev pub is_arm : QTy → Typed → Bool
is_arm t e = (is_value e && same (type_of e) t) || (is_tag (type_in t) && is_plain_of t (type_of e)) || (is_plain_void t && same (type_of e) t)

abbrev pub is_addressed : UnitTy → Typed → Bool
is_addressed u e = is_place e && not (is_bit_field u.types e) && not (is_registered u e)

-- What a node asks beside its parts.

abbrev pub holds : Option IntType → ℤ → Bool
holds None z = false
holds (Some k) z = int_le (least_of k) z && int_le z (greatest_of k)

abbrev pub text_at : QTy → Option (List ℕ) → Bool
text_at t None = false
text_at t (Some bytes) = is_literal t (length bytes)

abbrev pub object_at : QTy → Option ObjectTy → Bool
object_at t None = false
object_at t (Some o) = are_alike t o.ty

abbrev pub is_function_ty : Ty → Bool
is_function_ty (function f) = true
is_function_ty _ = false

abbrev pub is_plain_function : QTy → Bool
is_plain_function t = is_bare t && is_function_ty (type_in t)

abbrev pub func_at : QTy → Option FuncTy → Bool
func_at t None = false
func_at t (Some f) = is_plain_function t

abbrev pub member_by : QTy → Bool → Bool → Option MemberTy → Bool
member_by t c v None = false
member_by t c v (Some x) = is_qualified t c v x.ty

abbrev pub is_member : TypesTy → QTy → QTy → ℕ → Bool
is_member types t (qual s c v) m = member_by t c v (member_at types s m)

abbrev pub is_deref : QTy → Typed → Bool
is_deref t e = not (is_place e) && is_pointer_to (type_of e) t

abbrev pub is_load : QTy → Typed → Bool
is_load t e = is_scalar_place e && is_plain_of t (type_of e)

abbrev pub is_address : UnitTy → QTy → Typed → Bool
is_address u t e = is_addressed u e && is_pointer_to t (type_of e)

abbrev pub is_decay : QTy → Typed → Bool
is_decay t e = is_place e && is_decayed t (type_of e)

abbrev pub is_unary : UnaryOp → QTy → Typed → Bool
is_unary op t e = not (is_place e) && operand op t (type_of e)

abbrev pub is_binary : TypesTy → BinaryOp → QTy → Typed → Typed → Bool
is_binary types op t a b = not (is_place a) && not (is_place b) && operands types op t (type_of a) (type_of b)

abbrev pub is_logical : QTy → Typed → Typed → Bool
is_logical t a b = is_int_of t Int && is_value a && is_value b

abbrev pub is_choice : QTy → Typed → Typed → Typed → Bool
is_choice t x a b = is_value x && is_arm t a && is_arm t b

abbrev pub is_assign : QTy → Typed → Typed → Bool
is_assign t a b = is_load t a && not (is_place b) && same (type_of b) t

abbrev pub is_assign_op : BinaryOp → IntType → QTy → Typed → Typed → Bool
is_assign_op op k t a b = is_load t a && is_int t && not (is_place b) && is_promoted k && computes op k (type_of b)

abbrev pub is_assign_step : TypesTy → BinaryOp → QTy → Typed → Typed → Bool
is_assign_step types op t a b = is_load t a && is_moved types t && not (is_place b) && is_int (type_of b) && steps op

abbrev pub is_step : TypesTy → QTy → Typed → Bool
is_step types t a = is_load t a && is_stepped types t

abbrev pub is_copy : QTy → Typed → Typed → Bool
is_copy t a b = is_place a && is_tag (type_in t) && is_plain_of t (type_of a) && is_plain_of t (type_of b)

-- an automatic object, and no register
abbrev pub is_auto : Class → Bool
is_auto Auto = true
is_auto _ = false

-- an unnamed object for what a call gives
abbrev pub spot_at : QTy → Option ObjectTy → Bool
spot_at t None = false
spot_at t (Some o) = not (is_some o.name) && is_auto o.class && same_ty (type_in o.ty) (type_in t)

abbrev pub is_pack : TypesTy → QTy → Typed → Bool
is_pack types t e = is_plain_small types t && is_plain_of t (type_of e)

-- Calls.

abbrev pub are_passed : TypesTy → Nodes → Bool
are_passed types none = true
are_passed types (some e es) = passes types (type_of e) && are_passed types es

abbrev pub are_given : TypesTy → QTys → Bool → Nodes → Bool
are_given types end false none = true
are_given types end false (some e es) = false
are_given types end true es = are_passed types es
are_given types (more q qs) variadic none = false
are_given types (more q qs) variadic (some e es) = is_plain_of (type_of e) q && are_given types qs variadic es

abbrev pub fits : TypesTy → Params → Bool → Nodes → Bool
fits types unknown variadic es = are_passed types es
fits types (known qs) variadic es = are_given types qs variadic es

abbrev pub fits_fn : TypesTy → Fn → Nodes → Bool
fits_fn types (fn q ps variadic cdecl) es = fits types ps variadic es

-- the bytes of all arguments
abbrev pub argument_bytes : TypesTy → Nodes → ℕ
argument_bytes types none = 0
argument_bytes types (some e es) = flat_bytes types (type_in (type_of e)) + argument_bytes types es

abbrev pub are_few : TypesTy → Nodes → Bool
are_few types es = nat_le (argument_bytes types es) 250

abbrev pub calls : TypesTy → Fn → QTy → Nodes → Bool
calls types f t es = is_plain_of t (result_of f) && fits_fn types f es && are_few types es

-- the function that a pointer without qualifiers points to
abbrev pub callee_in : Ty → Option Fn
callee_in (pointer (qual (function f) c v)) = if c || v then None else Some f
callee_in _ = None

abbrev pub callee_of : QTy → Option Fn
callee_of (qual t c v) = if c || v then None else callee_in t

abbrev pub call_by : TypesTy → Option Fn → QTy → Nodes → Bool
call_by types None t es = false
call_by types (Some f) t es = calls types f t es

abbrev pub is_call : TypesTy → QTy → Typed → Nodes → Bool
is_call types t f es = not (is_place f) && call_by types (callee_of (type_of f)) t es

-- each node meets its rule
abbrev mutual
  pub is_typed : UnitTy → Typed → Bool
  is_typed u (node t e) = is_node u t e

  pub is_node : UnitTy → QTy → Node → Bool
  is_node u t (constant z) = holds (int_of t) z
  is_node u t null = is_plain_pointer t
  is_node u t (literal n) = text_at t (slice_get u.literals n)
  is_node u t (object i) = object_at t (slice_get u.objects i)
  is_node u t (func i) = func_at t (slice_get u.funcs i)
  is_node u t (deref e) = is_typed u e && is_deref t e
  is_node u t (member e m) = is_typed u e && is_member u.types t (type_of e) m
  is_node u t (load e) = is_typed u e && is_load t e
  is_node u t (address e) = is_typed u e && is_address u t e
  is_node u t (decay e) = is_typed u e && is_decay t e
  is_node u t (convert e) = is_typed u e && converts t e
  is_node u t (unary op e) = is_typed u e && is_unary op t e
  is_node u t (binary op a b) = is_typed u a && is_typed u b && is_binary u.types op t a b
  is_node u t (both a b) = is_typed u a && is_typed u b && is_logical t a b
  is_node u t (either a b) = is_typed u a && is_typed u b && is_logical t a b
  is_node u t (choice x a b) = is_typed u x && is_typed u a && is_typed u b && is_choice t x a b
  is_node u t (comma a b) = is_typed u a && is_typed u b && is_arm t b
  is_node u t (assign a b) = is_typed u a && is_typed u b && is_assign t a b
  is_node u t (assign_op op k a b) = is_typed u a && is_typed u b && is_assign_op op k t a b
  is_node u t (assign_step op a b) = is_typed u a && is_typed u b && is_assign_step u.types op t a b
  is_node u t (step how a) = is_typed u a && is_step u.types t a
  is_node u t (copy a b) = is_typed u a && is_typed u b && is_copy t a b
  is_node u t (call f es) = is_usual t && (is_typed u f && are_typed u es && is_call u.types t f es)
  is_node u t (pack e) = false
  is_node u t (spill i e) = same (type_of e) t && is_plain_small u.types (type_of e) && is_whole_call u e && spot_at t (slice_get u.objects i)
  is_node u t rest = is_rest t

  -- a call, whatever it gives
  pub is_whole_call : UnitTy → Typed → Bool
  is_whole_call u (node t (call f es)) = is_typed u f && are_typed u es && is_call u.types t f es
  is_whole_call u (node t _) = false

  -- the bytes of a structure or union
  pub is_packed : UnitTy → Typed → Bool
  is_packed u (node t (pack e)) = is_typed u e && is_pack u.types t e
  is_packed u (node t _) = false

  pub are_typed : UnitTy → Nodes → Bool
  are_typed u none = true
  are_typed u (some e es) = (is_packed u e || (is_typed u e && is_value e)) && are_typed u es

-- an argument or a returned value
abbrev pub is_given : UnitTy → Typed → Bool
is_given u e = is_packed u e || (is_typed u e && is_value e)
