-- Assignment and steps (C90 6.3.2.4, 6.3.3.1, 6.3.16).
use Rattle.std.specs.Prelude.{ℕ, Bool, true, false, ◌==◌, Result, Ok, Err, if◌then◌else◌}
use Rattle.c65_base.specs.declared.code.Code.TheVariants.{Assignment, NotModifiable, Operands}
use Rattle.c65_base.specs.declared.refusal.Pos.{Pos}
use Rattle.c65_base.specs.declared.operators.BinaryOp.{BinaryOp}
use Rattle.c65_base.specs.declared.operators.StepKind.{StepKind}
use Rattle.c65_base.specs.Answers.{Fault, at, ◌>>=◌}
use Rattle.c65_ints.specs.declared.types.IntType.{IntType}
use Rattle.c65_ctype.specs.Trees.{Ty, int, pointer, tag, QTy, type_in, TypesTy}
use Rattle.c65_csem.specs.Trees.{Typed, node, assign, assign_op, assign_step, step, copy, type_of}
use Rattle.c65_csem.specs.Places.{plain_of, is_tag}
use Rattle.c65_elab_convert.specs.declared.classes.Category.{Category}
use Rattle.c65_elab_convert.specs.declared.classes.Category.TheVariants as categories
use Rattle.c65_elab_convert.specs.declared.numbers.Group.{Group}
use Rattle.c65_elab_convert.specs.declared.numbers.Group.TheVariants as groups
use Rattle.c65_elab_convert.specs.Categories.{category_in, unfit_operand, unfit_operands}
use Rattle.c65_elab_convert.specs.Values.{value_of, promotion, place_promotion, common_of, as_int_of, as_plain_of}
use Rattle.c65_elab_convert.specs.Pointers.{agree, is_null, meet_in_void, has_qualifiers, target_size}
use Rattle.c65_elab_convert.specs.Numbers.{group_of}
use Rattle.c65_elab_convert.specs.Constness.{is_modifiable}

-- A pointer to r is assigned to a pointer to q where q has all qualifiers of r, and the two are compatible without their
-- qualifiers, or one is void and the other an object or incomplete type.
abbrev pub takes_target : TypesTy → QTy → QTy → Bool
takes_target types q r = if has_qualifiers q r then (if meet_in_void q r then true else agree types q r) else false

-- Numbers take numbers, pointers take such pointers and null pointer constants, and a structure or union takes one of its type.
abbrev pub takes_by : TypesTy → Ty → Ty → Typed → Bool
takes_by types (int k) (int j) e = true
takes_by types (pointer q) (pointer r) e = if is_null e then true else takes_target types q r
takes_by types (pointer q) (int j) e = is_null e
takes_by types (tag m) (tag n) e = m == n
takes_by types _ _ e = false

abbrev pub takes : TypesTy → Ty → Typed → Bool
takes types t e = takes_by types t (type_in (type_of e)) e

abbrev pub assigned_value : TypesTy → Pos → Ty → Typed → Result Typed Fault
assigned_value types p t e = if takes types t e then Ok (as_plain_of t e) else Err (at (unfit_operand Assignment e) p)

-- converted as by assignment
abbrev pub assigned_of : TypesTy → Pos → Ty → Typed → Result Typed Fault
assigned_of types p t e = assigned_value types p t (value_of e)

abbrev pub put_by : Bool → Typed → Typed → Typed
put_by true a b = node (plain_of (type_of a)) (copy a b)
put_by false a b = node (plain_of (type_of a)) (assign a b)

abbrev pub put : Typed → Typed → Typed
put a b = put_by (is_tag (type_in (type_of a))) a b

abbrev pub assign_of : TypesTy → Pos → Typed → Typed → Result Typed Fault
assign_of types p a b =
    if is_modifiable types a
    then (assigned_of types p (type_in (type_of a)) b >>= λ x. Ok (put a x))
    else Err (at NotModifiable p)

abbrev pub computed : BinaryOp → IntType → IntType → Typed → Typed → Typed
computed op k right a b = node (plain_of (type_of a)) (assign_op op k a (as_int_of right b))

-- a shift computes in the promoted type of its left operand, and the others in the common type
abbrev pub numbers_by : Pos → BinaryOp → Group → IntType → IntType → Typed → Typed → Result Typed Fault
numbers_by p op groups.Shift j k a b = Ok (computed op j k a b)
numbers_by p op groups.Arithmetic j k a b = Ok (computed op (common_of j k) (common_of j k) a b)
numbers_by p op groups.Add j k a b = Ok (computed op (common_of j k) (common_of j k) a b)
numbers_by p op groups.Subtract j k a b = Ok (computed op (common_of j k) (common_of j k) a b)
numbers_by p op groups.Order j k a b = Err (at (unfit_operands a b) p)
numbers_by p op groups.Equality j k a b = Err (at (unfit_operands a b) p)

abbrev pub on_numbers : Pos → BinaryOp → IntType → IntType → Typed → Typed → Result Typed Fault
on_numbers p op j k a b = numbers_by p op (group_of op) j k a b

abbrev pub moving : TypesTy → Pos → BinaryOp → IntType → Typed → Typed → Result Typed Fault
moving types p op k a b = do
  size ← target_size types p a
  Ok (node (plain_of (type_of a)) (assign_step op a (as_int_of (promotion types b k) b)))

abbrev pub pointer_by : TypesTy → Pos → BinaryOp → Group → IntType → Typed → Typed → Result Typed Fault
pointer_by types p op groups.Add k a b = moving types p op k a b
pointer_by types p op groups.Subtract k a b = moving types p op k a b
pointer_by types p op groups.Arithmetic k a b = Err (at (unfit_operands a b) p)
pointer_by types p op groups.Shift k a b = Err (at (unfit_operands a b) p)
pointer_by types p op groups.Order k a b = Err (at (unfit_operands a b) p)
pointer_by types p op groups.Equality k a b = Err (at (unfit_operands a b) p)

abbrev pub on_pointer : TypesTy → Pos → BinaryOp → IntType → Typed → Typed → Result Typed Fault
on_pointer types p op k a b = pointer_by types p op (group_of op) k a b

abbrev pub changed_by : TypesTy → Pos → BinaryOp → Category → Category → Typed → Typed → Result Typed Fault
changed_by types p op (categories.Int j) (categories.Int k) a b = on_numbers p op (place_promotion types a j) (promotion types b k) a b
changed_by types p op categories.Pointer (categories.Int k) a b = on_pointer types p op k a b
changed_by types p op _ _ a b = Err (at (unfit_operands a b) p)

abbrev pub changed : TypesTy → Pos → BinaryOp → Typed → Typed → Result Typed Fault
changed types p op a b = changed_by types p op (category_in a) (category_in b) a b

abbrev pub assign_op_of : TypesTy → Pos → BinaryOp → Typed → Typed → Result Typed Fault
assign_op_of types p op a b = if is_modifiable types a then changed types p op a (value_of b) else Err (at NotModifiable p)

abbrev pub stepped : StepKind → Typed → Typed
stepped how a = node (plain_of (type_of a)) (step how a)

abbrev pub step_by : TypesTy → Pos → StepKind → Category → Typed → Result Typed Fault
step_by types p how (categories.Int k) a = Ok (stepped how a)
step_by types p how categories.Pointer a = target_size types p a >>= λ n. Ok (stepped how a)
step_by types p how categories.Tag a = Err (at (unfit_operand Operands a) p)
step_by types p how categories.Void a = Err (at (unfit_operand Operands a) p)
step_by types p how categories.Other a = Err (at (unfit_operand Operands a) p)

abbrev pub step_of : TypesTy → Pos → StepKind → Typed → Result Typed Fault
step_of types p how a = if is_modifiable types a then step_by types p how (category_in a) a else Err (at NotModifiable p)
