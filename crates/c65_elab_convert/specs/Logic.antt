-- Conditions, and operators that may leave an operand out (C90 6.3.13, 6.3.14, 6.3.17, 6.6.4).
use Rattle.std.specs.Prelude.{Bool, true, false, ◌&&◌, Result, Ok, Err, if◌then◌else◌}
use Rattle.c65_base.specs.declared.code.Code.TheVariants.{ConditionType}
use Rattle.c65_base.specs.declared.refusal.Pos.{Pos}
use Rattle.c65_base.specs.Answers.{Fault, at}
use Rattle.c65_ints.specs.declared.types.IntType.TheVariants as ints
use Rattle.c65_ctype.specs.Trees.{int, TypesTy}
use Rattle.c65_csem.specs.Trees.{Typed, node, both, either, comma, type_of}
use Rattle.c65_csem.specs.Places.{plain, plain_of}
use Rattle.c65_elab_convert.specs.declared.classes.Category.{Category}
use Rattle.c65_elab_convert.specs.declared.classes.Category.TheVariants as categories
use Rattle.c65_elab_convert.specs.Categories.{category_in, unfit_operand, unfit_operands, is_scalar_type}
use Rattle.c65_elab_convert.specs.Values.{value_of, promotion, as_int_of}

abbrev pub both_values : Pos → Typed → Typed → Result Typed Fault
both_values p a b = if is_scalar_type (type_of a) && is_scalar_type (type_of b) then Ok (node (plain (int ints.Int)) (both a b)) else Err (at (unfit_operands a b) p)

abbrev pub both_of : Pos → Typed → Typed → Result Typed Fault
both_of p a b = both_values p (value_of a) (value_of b)

abbrev pub either_values : Pos → Typed → Typed → Result Typed Fault
either_values p a b = if is_scalar_type (type_of a) && is_scalar_type (type_of b) then Ok (node (plain (int ints.Int)) (either a b)) else Err (at (unfit_operands a b) p)

abbrev pub either_of : Pos → Typed → Typed → Result Typed Fault
either_of p a b = either_values p (value_of a) (value_of b)

abbrev pub comma_of : Typed → Typed → Typed
comma_of a b = node (plain_of (type_of (value_of b))) (comma (value_of a) (value_of b))

abbrev pub condition_by : Pos → Typed → Result Typed Fault
condition_by p e = if is_scalar_type (type_of e) then Ok e else Err (at (unfit_operand ConditionType e) p)

abbrev pub condition_of : Pos → Typed → Result Typed Fault
condition_of p e = condition_by p (value_of e)

abbrev pub switch_by : TypesTy → Pos → Category → Typed → Result Typed Fault
switch_by types p (categories.Int k) e = Ok (as_int_of (promotion types e k) e)
switch_by types p categories.Pointer e = Err (at (unfit_operand ConditionType e) p)
switch_by types p categories.Tag e = Err (at (unfit_operand ConditionType e) p)
switch_by types p categories.Void e = Err (at (unfit_operand ConditionType e) p)
switch_by types p categories.Other e = Err (at (unfit_operand ConditionType e) p)

abbrev pub switch_value_of : TypesTy → Pos → Typed → Result Typed Fault
switch_value_of types p e = switch_by types p (category_in (value_of e)) (value_of e)
