-- Operators between their two operands (C90 6.3.3 to 6.3.12).
use Rattle.std.specs.Prelude.{ℕ, ◌-◌, ◌%◌, nat_le, ◌&&◌, Bool, true, false, Option, Some, None, ℤ, List, [], ◌∷◌, ◌++◌}
use Rattle.c65_base.specs.declared.operators.UnaryOp.{UnaryOp}
use Rattle.c65_base.specs.declared.operators.UnaryOp.TheVariants as unary
use Rattle.c65_base.specs.declared.operators.BinaryOp.{BinaryOp}
use Rattle.c65_base.specs.declared.operators.BinaryOp.TheVariants.{Sub}
use Rattle.c65_ints.specs.declared.types.IntType.{IntType}
use Rattle.c65_ints.specs.declared.types.IntType.TheVariants.{UInt}
use Rattle.c65_ints.specs.Ranges.{residue}
use Rattle.c65_ctype.specs.Trees.{Ty, void, pointer}
use Rattle.c65_csem.specs.Trees.{Typed, node, constant}
use Rattle.c65_csem.specs.Places.{is_scalar}
use Rattle.c65_code.specs.declared.line.Line.{Line}
use Rattle.c65_code.specs.declared.routine.Width.{Width}
use Rattle.c65_code.specs.declared.routine.Width.TheVariants.{Ax}
use Rattle.c65_code.specs.declared.routine.Routine.TheVariants.{Unary}
use Rattle.c65_code.specs.declared.routine.UnaryRoutine.TheVariants.{Neg, Compl}
use Rattle.c65_genframe.specs.Frames.{Framed}
use Rattle.c65_genwide.specs.Lines.{call}
use Rattle.c65_genwide.specs.Wide.{width_of, wide_code}
use Rattle.c65_genload.specs.Numbers.{scale_code, divide_code}
use Rattle.c65_genload.specs.Conversions.{size_of, convert_code, push_code}
use Rattle.c65_genexpr.specs.declared.operands.Operands.{Operands}
use Rattle.c65_genexpr.specs.declared.operands.Operands.TheVariants.{Numbers, PointerFirst, PointerLast, Pointers}
use Rattle.c65_genexpr.specs.declared.wanted.Wanted.{Wanted}
use Rattle.c65_genexpr.specs.declared.wanted.Wanted.TheVariants.{Value, Test}
use Rattle.c65_genexpr.specs.Wanted.{wanted}
use Rattle.c65_genexpr.specs.Types.{kind_of, target_bytes}

-- the left operand is no pointer
abbrev pub behind_number : Framed → Ty → Ty → Operands
behind_number f a (pointer q) = PointerLast (target_bytes f (pointer q))
behind_number f a b = Numbers (kind_of a)

abbrev pub behind_pointer : Framed → Ty → Ty → Operands
behind_pointer f a (pointer q) = Pointers (target_bytes f a)
behind_pointer f a b = PointerFirst (target_bytes f a)

abbrev pub operands_of : Framed → Ty → Ty → Operands
operands_of f (pointer q) b = behind_pointer f (pointer q) b
operands_of f a b = behind_number f a b

-- the type in which an operator computes
abbrev pub computes : Operands → IntType
computes (Numbers kind) = kind
computes _ = UInt

-- behind the left operand, which then waits
abbrev pub between_code : Operands → List Line
between_code (PointerLast size) = scale_code size ++ push_code Ax
between_code operands = push_code (width_of (computes operands))

-- bytes between two pointers to elements
abbrev pub difference_code : BinaryOp → ℕ → List Line
difference_code Sub size = divide_code size
difference_code op size = []

-- behind the right operand, which is of this type
abbrev pub behind_code : BinaryOp → Operands → IntType → List Line
behind_code op (Numbers kind) right = convert_code right kind ++ wide_code op kind
behind_code op (PointerFirst size) right = scale_code size ++ wide_code op UInt
behind_code op (PointerLast size) right = wide_code op UInt
behind_code op (Pointers size) right = wide_code op UInt ++ difference_code op size

abbrev pub unary_code : UnaryOp → Width → List Line
unary_code unary.Neg width = call (Unary Neg width) ∷ []
unary_code unary.BitNot width = call (Unary Compl width) ∷ []
unary_code op width = []

abbrev pub conversion_code : Ty → IntType → List Line
conversion_code void from = []
conversion_code to from = convert_code from (kind_of to)

-- whether a converted value is zero just where the value is
abbrev pub same_truth : Ty → Ty → Bool
same_truth to from = is_scalar to && (is_scalar from && nat_le (size_of (kind_of from)) (size_of (kind_of to)))

abbrev pub conversion_by : Wanted → Bool → Ty → IntType → List Line → List Line
conversion_by Value same to from lines = lines ++ conversion_code to from
conversion_by (Test l s) true to from lines = lines
conversion_by (Test l s) false to from lines = wanted (Test l s) (width_of (kind_of to)) (lines ++ conversion_code to from)

-- ---- constants

-- modulo 2 to the 32
abbrev pub residue_of : ℤ → ℕ
residue_of z = residue 4294967296 z

abbrev pub negative : ℕ → ℕ
negative n = (4294967296 - n) % 4294967296

abbrev pub constant_in : Typed → Option ℤ
constant_in (node t (constant z)) = Some z
constant_in (node t _) = None
