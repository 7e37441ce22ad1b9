-- Values that are changed where they are kept (C90 6.3.2.4, 6.3.3.1, 6.3.16.2).
use Rattle.std.specs.Prelude.{ℕ, Bool, true, false, if◌then◌else◌, Option, Some, None, List, [], ◌∷◌, ◌++◌}
use Rattle.c65_base.specs.declared.operators.BinaryOp.{BinaryOp}
use Rattle.c65_base.specs.declared.operators.StepKind.{StepKind}
use Rattle.c65_base.specs.declared.operators.StepKind.TheVariants.{PreInc, PreDec, PostInc, PostDec}
use Rattle.c65_ints.specs.declared.types.IntType.{IntType}
use Rattle.c65_ctype.specs.Trees.{Ty}
use Rattle.c65_code.specs.declared.line.Line.{Line}
use Rattle.c65_code.specs.declared.line.Line.TheVariants.{Label}
use Rattle.c65_genframe.specs.Frames.{Framed}
use Rattle.c65_genwide.specs.Wide.{width_of}
use Rattle.c65_genload.specs.declared.places.Place.{Place}
use Rattle.c65_genload.specs.declared.places.Access.{Access}
use Rattle.c65_genload.specs.declared.places.Access.TheVariants.{Whole, Part}
use Rattle.c65_genload.specs.Places.{type_in, settled}
use Rattle.c65_genload.specs.Numbers.{add_code}
use Rattle.c65_genload.specs.Conversions.{convert_code, push_code}
use Rattle.c65_genload.specs.Fields.{range_code}
use Rattle.c65_genload.specs.Loads.{hold_code, load_code}
use Rattle.c65_genload.specs.Stores.{store_code}
use Rattle.c65_genchange.specs.declared.spots.Target.{Target}
use Rattle.c65_genchange.specs.Spots.{target_of}
use Rattle.c65_genchange.specs.Stepping.{is_post, stepped_code}
use Rattle.c65_genexpr.specs.declared.operands.Operands.{Operands}
use Rattle.c65_genexpr.specs.Types.{target_bytes}
use Rattle.c65_genexpr.specs.Operands.{negative, computes, behind_code}

abbrev pub is_up : StepKind → Bool
is_up PreInc = true
is_up PreDec = false
is_up PostInc = true
is_up PostDec = false

-- one, or the bytes of an element
abbrev pub amount_of : Framed → StepKind → Ty → ℕ
amount_of f how t = if is_up how then target_bytes f t else negative (target_bytes f t)

-- the value before the step, from the one behind it
abbrev pub back_code : Access → ℕ → List Line
back_code (Whole kind) n = add_code kind (negative n)
back_code (Part field) n = add_code field.kind (negative n) ++ range_code field

abbrev pub after_code : StepKind → Access → ℕ → List Line
after_code how access n = if is_post how then back_code access n else []

-- bit-fields, and numbers of four bytes: behind the address of a place that is anywhere
abbrev pub long_step_code : StepKind → Place → Access → ℕ → List Line
long_step_code how place access n = hold_code place ++ (load_code (settled place) access ++ (add_code (type_in access) n ++ (store_code place access ++ after_code how access n)))

-- a number that is changed where it lies, by so many bytes; another one
abbrev pub step_by : Option Target → StepKind → ℕ → ℕ → Place → Access → ℕ → List Line
step_by (Some target) how size n place access label = stepped_code how size place (type_in access) target label
step_by None how size n place access label = long_step_code how place access n ++ (Label label ∷ [])

-- a step by so many bytes, which is this number, behind the base of a place; the label is placed once
abbrev pub step_code : StepKind → ℕ → ℕ → Place → Access → ℕ → List Line
step_code how size n place access label = step_by (target_of place access) how size n place access label

-- the value waits, in the type in which the operator computes
abbrev pub open_code : Place → Access → IntType → List Line
open_code place access kind = hold_code place ++ (load_code (settled place) access ++ (convert_code (type_in access) kind ++ push_code (width_of kind)))

abbrev pub close_code : BinaryOp → Operands → IntType → Place → Access → List Line
close_code op operands right place access = behind_code op operands right ++ (convert_code (computes operands) (type_in access) ++ store_code place access)
