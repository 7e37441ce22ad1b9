-- Casts (C90 6.3.4).
use Rattle.std.specs.Prelude.{Bool, true, false, Result, Ok, Err, if◌then◌else◌}
use Rattle.c65_base.specs.declared.code.Code.TheVariants.{Operands}
use Rattle.c65_base.specs.declared.refusal.Pos.{Pos}
use Rattle.c65_base.specs.Answers.{Fault, at}
use Rattle.c65_ints.specs.declared.types.IntType.{IntType}
use Rattle.c65_ctype.specs.Trees.{int, QTy, type_in, TypesTy}
use Rattle.c65_csem.specs.Trees.{Typed, node, convert}
use Rattle.c65_csem.specs.Places.{plain}
use Rattle.c65_elab_convert.specs.declared.classes.Category.{Category}
use Rattle.c65_elab_convert.specs.declared.classes.Category.TheVariants.{Int, Pointer, Tag, Void, Other}
use Rattle.c65_elab_convert.specs.Categories.{category_of, category_in, unfit_operand}
use Rattle.c65_elab_convert.specs.Values.{value_of, is_narrow_value, as_int_of, as_plain_of, voided}

-- the value of a bit-field does not stay that of a bit-field
abbrev pub as_whole : TypesTy → IntType → Typed → Typed
as_whole types k e = if is_narrow_value types e then node (plain (int k)) (convert e) else as_int_of k e

abbrev pub value_by : TypesTy → Pos → QTy → Category → Category → Typed → Result Typed Fault
value_by types p t Void Void e = Ok e
value_by types p t Void (Int j) e = Ok (voided e)
value_by types p t Void Pointer e = Ok (voided e)
value_by types p t Void Tag e = Ok (voided e)
value_by types p t Void Other e = Ok (voided e)
value_by types p t (Int k) (Int j) e = Ok (as_whole types k e)
value_by types p t (Int k) Pointer e = Ok (as_whole types k e)
value_by types p t Pointer (Int j) e = Ok (as_plain_of (type_in t) e)
value_by types p t Pointer Pointer e = Ok (as_plain_of (type_in t) e)
value_by types p t _ _ e = Err (at (unfit_operand Operands e) p)

abbrev pub on_value : TypesTy → Pos → QTy → Typed → Result Typed Fault
on_value types p t e = value_by types p t (category_of (type_in t)) (category_in e) e

abbrev pub cast_of : TypesTy → Pos → QTy → Typed → Result Typed Fault
cast_of types p t e = on_value types p t (value_of e)
