-- Comparisons with a right side that is read where it lies, and branches by them (C90 6.3.8, 6.3.9). In each form the lines go to
-- a label where the left side has the relation to the right one, and else on.
use Rattle.std.specs.Prelude.{ℕ, ◌+◌, ◌==◌, ◌&&◌, bit_xor, Bool, true, false, if◌then◌else◌, Option, Some, None, List, [], ◌∷◌, ◌++◌}
use Rattle.c65_base.specs.declared.operators.BinaryOp.{BinaryOp}
use Rattle.c65_base.specs.declared.operators.BinaryOp.TheVariants as ops
use Rattle.c65_mach.specs.declared.rows.Op.{Op}
use Rattle.c65_mach.specs.declared.rows.Op.TheVariants.{Bcc, Bcs, Beq, Bmi, Bne, Bpl, Bvc, Clc, Cmp, Cpx, Eor, Lda, Sbc, Txa}
use Rattle.c65_code.specs.declared.line.Line.{Line}
use Rattle.c65_code.specs.declared.line.Line.TheVariants.{Label}
use Rattle.c65_genwide.specs.Lines.{value}
use Rattle.c65_genload.specs.Words.{sreg, implied, zero_page, branch}
use Rattle.c65_gendirect.specs.declared.bytes.OperandByte.{OperandByte}
use Rattle.c65_gendirect.specs.declared.bytes.OperandByte.TheVariants.{Number}
use Rattle.c65_gendirect.specs.declared.compare.Sides.{Sides}
use Rattle.c65_gendirect.specs.declared.compare.Sides.TheVariants.{Word, Long}
use Rattle.c65_gendirect.specs.declared.relation.Relation.{Relation}
use Rattle.c65_gendirect.specs.declared.relation.Relation.TheVariants.{Less, NotLess, Greater, NotGreater, Equal, Unequal}
use Rattle.c65_gendirect.specs.Bytes.{takes_y, op_of}

abbrev pub relation_of : BinaryOp → Option Relation
relation_of ops.Lt = Some Less
relation_of ops.Ge = Some NotLess
relation_of ops.Gt = Some Greater
relation_of ops.Le = Some NotGreater
relation_of ops.Eq = Some Equal
relation_of ops.Ne = Some Unequal
relation_of _ = None

-- where this relation does not hold
abbrev pub negated : Relation → Relation
negated Less = NotLess
negated NotLess = Less
negated Greater = NotGreater
negated NotGreater = Greater
negated Equal = Unequal
negated Unequal = Equal

-- the relation of the right side to the left one
abbrev pub mirrored : Relation → Relation
mirrored Less = Greater
mirrored NotLess = NotGreater
mirrored Greater = Less
mirrored NotGreater = NotLess
mirrored Equal = Equal
mirrored Unequal = Unequal

-- The lowest byte: the carry is that of the difference, or of what is one less than it. So the carry, or the sign, tells of
-- both whether they are below zero.
abbrev pub lowest_code : Relation → OperandByte → List Line
lowest_code Greater low = implied Clc ∷ op_of Sbc low
lowest_code NotGreater low = implied Clc ∷ op_of Sbc low
lowest_code _ low = op_of Cmp low

-- on from two bytes to the high half of EAX
abbrev pub upper_code : OperandByte → OperandByte → List Line
upper_code third fourth = zero_page Lda sreg ∷ (op_of Sbc third ++ (zero_page Lda (sreg + 1) ∷ op_of Sbc fourth))

-- the difference, whose highest byte A then is
abbrev pub difference_code : Relation → Sides → List Line
difference_code r (Word low high) = lowest_code r low ++ (implied Txa ∷ op_of Sbc high)
difference_code r (Long first second third fourth) = lowest_code r first ++ (implied Txa ∷ (op_of Sbc second ++ upper_code third fourth))

-- whether the highest byte of the right side is a number: then the signs of both sides are turned, and the carry tells of signed
-- values too
abbrev pub is_number : OperandByte → Bool
is_number (Number n) = true
is_number byte = false

abbrev pub is_turned : Bool → Sides → Bool
is_turned is_signed (Word low high) = is_signed && is_number high
is_turned is_signed (Long first second third fourth) = is_signed && is_number fourth

abbrev pub turned : OperandByte → OperandByte
turned (Number n) = Number (bit_xor n 128)
turned byte = byte

abbrev pub turned_code : OperandByte → List Line
turned_code byte = value Eor 128 ∷ op_of Sbc (turned byte)

abbrev pub turned_upper_code : OperandByte → OperandByte → List Line
turned_upper_code third fourth = zero_page Lda sreg ∷ (op_of Sbc third ++ (zero_page Lda (sreg + 1) ∷ turned_code fourth))

-- the difference of both sides, each with its sign turned
abbrev pub turned_difference_code : Relation → Sides → List Line
turned_difference_code r (Word low high) = lowest_code r low ++ (implied Txa ∷ turned_code high)
turned_difference_code r (Long first second third fourth) = lowest_code r first ++ (implied Txa ∷ (op_of Sbc second ++ turned_upper_code third fourth))

-- the branch by the carry, of values without sign
abbrev pub by_carry : Relation → Op
by_carry Less = Bcc
by_carry NotGreater = Bcc
by_carry _ = Bcs

-- the branch by the sign
abbrev pub by_sign : Relation → Op
by_sign Less = Bmi
by_sign NotGreater = Bmi
by_sign _ = Bpl

-- behind the difference; where it overflows its sign is the other one
abbrev pub order_code : Relation → Bool → ℕ → ℕ → List Line
order_code r is_signed fresh to =
    if is_signed then branch Bvc fresh ∷ value Eor 128 ∷ Label fresh ∷ branch (by_sign r) to ∷ []
    else Label fresh ∷ branch (by_carry r) to ∷ []

-- X and a byte
abbrev pub second_code : OperandByte → List Line
second_code byte = if takes_y byte then implied Txa ∷ op_of Cmp byte else op_of Cpx byte

-- goes where an earlier byte is another; else Z says whether the last one is the same
abbrev pub same_code : Sides → ℕ → List Line
same_code (Word low high) other = op_of Cmp low ++ (branch Bne other ∷ second_code high)
same_code (Long first second third fourth) other =
    op_of Cmp first ++ (branch Bne other ∷ (second_code second ++ (branch Bne other ∷ zero_page Lda sreg ∷ (op_of Cmp third ++ (branch Bne other ∷ zero_page Lda (sreg + 1) ∷ op_of Cmp fourth)))))

-- whether both are signed, and the right side is 0: then the sign of the left one says whether it is less
abbrev pub is_zero_byte : OperandByte → Bool
is_zero_byte (Number n) = n == 0
is_zero_byte byte = false

abbrev pub are_zero : Sides → Bool
are_zero (Word low high) = is_zero_byte low && is_zero_byte high
are_zero (Long first second third fourth) = is_zero_byte first && (is_zero_byte second && (is_zero_byte third && is_zero_byte fourth))

abbrev pub is_sign_test : Relation → Bool → Sides → Bool
is_sign_test Less is_signed sides = is_signed && are_zero sides
is_sign_test NotLess is_signed sides = is_signed && are_zero sides
is_sign_test r is_signed sides = false

-- the highest byte comes to A
abbrev pub highest_code : Sides → List Line
highest_code (Word low high) = implied Txa ∷ []
highest_code (Long first second third fourth) = zero_page Lda (sreg + 1) ∷ []

-- an order; fresh is placed once
abbrev pub ordered_code : Relation → Bool → Sides → ℕ → ℕ → List Line
ordered_code r is_signed sides fresh to =
    if is_sign_test r is_signed sides then highest_code sides ++ (Label fresh ∷ branch (by_sign r) to ∷ [])
    else if is_turned is_signed sides then turned_difference_code r sides ++ order_code r false fresh to
    else difference_code r sides ++ order_code r is_signed fresh to

-- AX or EAX with a word or a long; fresh is placed once
abbrev pub compare_code : Relation → Bool → Sides → ℕ → ℕ → List Line
compare_code Equal is_signed sides fresh to = same_code sides fresh ++ (branch Beq to ∷ Label fresh ∷ [])
compare_code Unequal is_signed sides fresh to = same_code sides to ++ (branch Bne to ∷ Label fresh ∷ [])
compare_code r is_signed sides fresh to = ordered_code r is_signed sides fresh to

-- A with a byte, both without sign
abbrev pub compare_byte_code : Relation → OperandByte → ℕ → List Line
compare_byte_code Equal byte to = op_of Cmp byte ++ (branch Beq to ∷ [])
compare_byte_code Unequal byte to = op_of Cmp byte ++ (branch Bne to ∷ [])
compare_byte_code r byte to = lowest_code r byte ++ (branch (by_carry r) to ∷ [])
