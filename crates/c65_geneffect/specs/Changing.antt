-- How a number is changed where it lies, where its value is not used (C90 6.3.2.4, 6.3.3.1, 6.3.16).
use Rattle.std.specs.Prelude.{◌≡◌, ℕ, ℤ, ◌*◌, ◌%◌, ◌==◌, ◌&&◌, Bool, if◌then◌else◌, Option, Some, None, option_map, option_and_then}
use Rattle.c65_base.specs.declared.operators.BinaryOp.{BinaryOp}
use Rattle.c65_base.specs.declared.operators.StepKind.{StepKind}
use Rattle.c65_base.specs.declared.operators.StepKind.TheVariants.{PreInc, PreDec, PostInc, PostDec}
use Rattle.c65_csem.specs.Trees.{Typed, node, constant, null}
use Rattle.c65_genload.specs.declared.places.Place.{Place}
use Rattle.c65_genload.specs.declared.places.Place.TheVariants.{Far}
use Rattle.c65_genload.specs.declared.places.Access.{Access}
use Rattle.c65_genload.specs.declared.places.Access.TheVariants.{Whole, Part}
use Rattle.c65_genload.specs.Numbers.{first, second}
use Rattle.c65_genexpr.specs.Operands.{residue_of, constant_in}
use Rattle.c65_genexpr.specs.declared.operands.Operands.{Operands}
use Rattle.c65_genexpr.specs.declared.operating.Form.{Form}
use Rattle.c65_genexpr.specs.Operating.{takes_bytes, constant_right}
use Rattle.c65_genexpr.specs.Direct.{is_pure}
use Rattle.c65_genexpr.specs.Uses.{uses}
use Rattle.c65_genchange.specs.declared.spots.Target.{Target}
use Rattle.c65_genchange.specs.declared.spots.Target.TheVariants.{Word}
use Rattle.c65_genchange.specs.declared.changes.Change.{Change}
use Rattle.c65_genchange.specs.declared.changes.Change.TheVariants.{Up, Down, Number, Operand}
use Rattle.c65_geneffect.specs.declared.changing.Changing.{Changing}
use Rattle.c65_geneffect.specs.declared.changing.Changing.TheVariants.{Fixed, Loaded, Computed, Otherwise}
use Rattle.c65_geneffect.specs.declared.changing.Fill.{Fill}
use Rattle.c65_genchange.specs.Spots.{all_counted, target_of}
use Rattle.c65_genchange.specs.Stepping.{step_op}

-- ---- `++` and `--`

-- where the value is not used, a step behind is one in front
abbrev pub in_front : StepKind → StepKind
in_front PreInc = PreInc
in_front PreDec = PreDec
in_front PostInc = PreInc
in_front PostDec = PreDec

-- a step by one
abbrev pub counting : StepKind → Target → Change
counting PreInc target = Up target
counting PreDec target = Down target
counting PostInc target = Up target
counting PostDec target = Down target

-- a step by so many bytes
abbrev pub step_by : StepKind → ℕ → Target → Change
step_by how size target = if (size == 1) && all_counted target then counting how target else Number (step_op how) size target

abbrev pub stepping_of : StepKind → ℕ → Place → Access → Option Change
stepping_of how size place access = option_map (step_by how size) (target_of place access)

-- ---- assignments with an operator

-- the right side comes to AX first: it changes nothing, and the place needs no address
abbrev pub loaded_by : Bool → BinaryOp → ℕ → Place → Target → Changing
loaded_by pure op size (Far at) target = Otherwise
loaded_by pure op size place target = if pure && (size == 1) then Loaded (Operand op target) else Otherwise

-- by a constant; elements have so many bytes
abbrev pub fixed_or : BinaryOp → ℕ → Target → Option ℤ → Changing → Changing
fixed_or op size target (Some z) other = Fixed (Number op (residue_of z * size % 4294967296) target)
fixed_or op size target None other = other

-- by a constant, or else by a value
abbrev pub changing_at : BinaryOp → ℕ → Place → Typed → Option Target → Changing
changing_at op size place b None = Otherwise
changing_at op size place b (Some target) = fixed_or op size target (constant_in b) (loaded_by (is_pure b) op size place target)

-- the value is computed on as an operator does it, and put back, where the place needs no address
abbrev pub computed_or : Option Form → Changing
computed_or (Some form) = Computed form
computed_or None = Otherwise

abbrev pub computed_by : BinaryOp → Operands → Place → Access → Typed → Changing
computed_by op operands (Far at) access b = Otherwise
computed_by op operands place (Part field) b = Otherwise
computed_by op operands place (Whole kind) b = computed_or (constant_right op operands b)

abbrev pub changing_in : BinaryOp → Operands → ℕ → Place → Access → Typed → Option Target → Changing
changing_in op operands size place access b None = computed_by op operands place access b
changing_in op operands size place access b (Some target) = changing_at op size place b (Some target)

abbrev pub changing_of : BinaryOp → Operands → ℕ → Place → Access → Typed → Changing
changing_of op operands size place access b = if takes_bytes op then changing_in op operands size place access b (target_of place access) else computed_by op operands place access b

-- ---- `=`

-- a constant, or Null
abbrev pub number_in : Typed → Option ℕ
number_in (node t (constant z)) = Some (residue_of z)
number_in (node t null) = Some 0
number_in (node t _) = None

abbrev pub fill_by : ℕ → Target → Option Fill
fill_by n (Word low high) = if first n == second n then Some (record { byte = first n; low = low; high = high }) else None
fill_by n target = None

abbrev pub filling_at : Place → Access → Option ℕ → Option Fill
filling_at place access (Some n) = option_and_then (fill_by n) (target_of place access)
filling_at place access None = None

-- a number whose two bytes are the same, where the place needs no address
abbrev pub filling_of : Place → Access → Typed → Option Fill
filling_of (Far at) access b = None
filling_of place access b = filling_at place access (number_in b)

-- ---- sides that take no lines have no labels

abbrev pub ChangesFree : Changing → Typed → Type 0
ChangesFree (Fixed change) b = uses None b ≡ 0
ChangesFree (Loaded change) b = Unit {0}
ChangesFree (Computed form) b = uses None b ≡ 0
ChangesFree Otherwise b = Unit {0}

abbrev pub FillsFree : Option Fill → Typed → Type 0
FillsFree (Some fill) b = uses None b ≡ 0
FillsFree None b = Unit {0}
