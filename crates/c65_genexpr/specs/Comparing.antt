-- Comparisons (C90 6.3.8, 6.3.9): their forms, and the lines of each from the lines of its two sides.
use Rattle.std.specs.Prelude.{ℕ, ◌+◌, ◌%◌, ◌==◌, ◌&&◌, ◌||◌, not, if◌then◌else◌, Bool, true, false, Option, Some, None, is_some, option_and_then, List, ◌∷◌, ◌++◌}
use Rattle.c65_base.specs.declared.operators.BinaryOp.{BinaryOp}
use Rattle.c65_ints.specs.declared.types.IntType.{IntType}
use Rattle.c65_ints.specs.declared.types.IntType.TheVariants.{UChar}
use Rattle.c65_ints.specs.Ranges.{is_signed_of, greatest_of}
use Rattle.c65_csem.specs.Trees.{Typed, node, constant, null}
use Rattle.c65_mach.specs.declared.rows.Op.TheVariants.{Lda, Tay}
use Rattle.c65_code.specs.declared.line.Line.{Line}
use Rattle.c65_code.specs.declared.routine.Width.{Width}
use Rattle.c65_code.specs.declared.routine.Width.TheVariants.{Ax}
use Rattle.c65_genframe.specs.Frames.{Framed}
use Rattle.c65_genwide.specs.Wide.{width_of}
use Rattle.c65_genload.specs.Words.{implied}
use Rattle.c65_gendirect.specs.declared.bytes.OperandByte.{OperandByte}
use Rattle.c65_gendirect.specs.declared.direct.Direct.{Direct}
use Rattle.c65_gendirect.specs.declared.direct.Direct.TheVariants.{Number}
use Rattle.c65_gendirect.specs.declared.relation.Relation.{Relation}
use Rattle.c65_gendirect.specs.declared.relation.Relation.TheVariants.{Less, NotLess, Greater, NotGreater, Equal, Unequal}
use Rattle.c65_gendirect.specs.declared.compare.Sides.{Sides}
use Rattle.c65_gendirect.specs.declared.compare.Sides.TheVariants.{Word, Long}
use Rattle.c65_gendirect.specs.Bytes.{op_of, byte_of}
use Rattle.c65_gendirect.specs.Compare.{mirrored, negated, compare_code, compare_byte_code}
use Rattle.c65_genshift.specs.Shifts.{labelled}
use Rattle.c65_genexpr.specs.declared.comparing.Side.{Side}
use Rattle.c65_genexpr.specs.declared.comparing.Side.TheVariants.{Left, Right}
use Rattle.c65_genexpr.specs.declared.comparing.Comparing.{Comparing}
use Rattle.c65_genexpr.specs.declared.comparing.Comparing.TheVariants.{Truth, Byte, Whole, Held, HeldByte, Stacked}
use Rattle.c65_genexpr.specs.declared.operands.Operands.{Operands}
use Rattle.c65_genexpr.specs.Operands.{residue_of, between_code, behind_code}
use Rattle.c65_genexpr.specs.Places.{more}
use Rattle.c65_genexpr.specs.Direct.{sides_of, direct_of, is_fixed, is_pure, is_byte}
use Rattle.c65_genexpr.specs.Held.{held_low, held_high, keep_code, keep_byte_code}
use Rattle.c65_genexpr.specs.Operating.{is_light}
use Rattle.c65_genexpr.specs.Wanted.{branch_code}

-- the relation that holds where a comparison has this truth
abbrev pub relation_by : Bool → Relation → Relation
relation_by s r = if s then r else negated r

-- ---- a side that is 0

abbrev pub is_zero : Typed → Bool
is_zero (node t (constant z)) = residue_of z == 0
is_zero (node t null) = true
is_zero (node t _) = false

-- what is equal to 0 is false, and what is not equal is true
abbrev pub zero_sense : Relation → Option Bool
zero_sense Equal = Some false
zero_sense Unequal = Some true
zero_sense _ = None

-- the sense in which the other side is tested, where this one is 0
abbrev pub tested_by : Relation → Typed → Option Bool
tested_by r e = if is_zero e then zero_sense r else None

-- ---- a side that is read where it lies

abbrev pub lowest : Sides → OperandByte
lowest (Word low high) = low
lowest (Long first second third fourth) = first

-- a comparison with a number, but for the greatest of its type, as one with the number behind it
abbrev pub is_raised : Relation → IntType → Direct → Bool
is_raised Greater kind (Number n) = not (n == residue_of (greatest_of kind))
is_raised NotGreater kind (Number n) = not (n == residue_of (greatest_of kind))
is_raised r kind d = false

abbrev pub raised : Relation → Relation
raised Greater = NotLess
raised NotGreater = Less
raised r = r

abbrev pub one_more : Direct → Direct
one_more (Number n) = Number ((n + 1) % 4294967296)
one_more d = d

-- ---- the form

-- the values of a side: a byte is compared as an unsigned char
abbrev pub range_of : Bool → IntType → IntType
range_of bytes kind = if bytes then UChar else kind

-- a side, and the bytes of the other one
abbrev pub meeting : Side → Relation → Bool → IntType → Option Direct → Option Sides → Comparing
meeting side r bytes kind first None = Stacked
meeting side r true kind first (Some sides) = Byte side (option_and_then (λ d. byte_of d 0) first) r (lowest sides)
meeting side r false kind first (Some sides) = Whole side r (is_signed_of kind) sides

-- a side, and the other one
abbrev pub beside : Side → Relation → Bool → IntType → Option Direct → Option Direct → Comparing
beside side r bytes kind first None = Stacked
beside side r bytes kind first (Some d) =
    if is_raised r (range_of bytes kind) d then meeting side (raised r) bytes kind first (sides_of (width_of kind) (one_more d))
    else meeting side r bytes kind first (sides_of (width_of kind) d)

abbrev pub is_read : IntType → Option Direct → Bool
is_read kind d = is_some (option_and_then (sides_of (width_of kind)) d)

-- whether the sides change: the left one is read where it lies, and the right one leaves it as it is
abbrev pub changes : IntType → Bool → Option Direct → Option Direct → Bool
changes kind pure a b = is_fixed a || (is_read kind a && (not (is_read kind b) && pure))

abbrev pub compared_by : Relation → Bool → IntType → Bool → Option Direct → Option Direct → Comparing
compared_by r bytes kind pure a b = if changes kind pure a b then beside Right (mirrored r) bytes kind b a else beside Left r bytes kind a b

-- no side is read, and the right one is light: the left one waits in ptr2
abbrev pub held_by : Bool → Bool → Width → Relation → IntType → Comparing
held_by true bytes Ax r kind = if bytes then HeldByte (mirrored r) else Held (mirrored r) (is_signed_of kind)
held_by is_light bytes width r kind = Stacked

abbrev pub or_held : Comparing → Comparing → Comparing
or_held Stacked held = held
or_held how held = how

-- how two sides are compared in a type
abbrev pub comparing_of : Framed → ℕ → Relation → IntType → Typed → Typed → Comparing
comparing_of f pushed r kind a b =
    if is_some (tested_by r b) then Truth Left
    else (if is_some (tested_by r a) then Truth Right
    else or_held (compared_by r (is_byte a && is_byte b) kind (is_pure b) (direct_of f pushed a) (direct_of f pushed b)) (held_by (is_light f pushed b) (is_byte a && is_byte b) (width_of kind) r kind))

-- ---- lines

abbrev pub on : Side → List Line → List Line → List Line
on Left left right = left
on Right left right = right

-- A is the low byte of a side
abbrev pub low_code : Option OperandByte → List Line → List Line
low_code None lines = lines
low_code (Some d) lines = op_of Lda d

-- whether of the sides only the low bytes are compared
abbrev pub takes_low : Comparing → Bool
takes_low (Byte side low r d) = true
takes_low (HeldByte r) = true
takes_low how = false

-- the bytes that wait while the right side is computed: the left one has so many
abbrev pub below_side : Comparing → ℕ → ℕ → ℕ
below_side Stacked pushed bytes = more pushed bytes
below_side _ pushed bytes = pushed

-- A comparison from the lines of its two sides: where its truth is s it goes to a label. The label m is its own, and is placed once.
abbrev pub comparison_by : Comparing → BinaryOp → Operands → IntType → Bool → ℕ → ℕ → List Line → List Line → List Line
comparison_by (Truth side) op operands right s to m a b = labelled m (on side a b)
comparison_by (Byte side low r d) op operands right s to m a b = labelled m (low_code low (on side a b) ++ compare_byte_code r d to)
comparison_by (Whole side r is_signed sides) op operands right s to m a b = on side a b ++ compare_code r is_signed sides m to
comparison_by (Held r is_signed) op operands right s to m a b = a ++ (keep_code ++ (b ++ compare_code r is_signed (Word held_low held_high) m to))
comparison_by (HeldByte r) op operands right s to m a b = labelled m (a ++ (keep_byte_code ++ (b ++ compare_byte_code r held_low to)))
comparison_by Stacked op operands right s to m a b =
    labelled m (a ++ (between_code operands ++ (b ++ (behind_code op operands right ++ (implied Tay ∷ branch_code s to)))))
