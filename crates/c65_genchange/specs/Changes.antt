-- Numbers that are changed where they lie, where nothing needs their value then (C90 6.3.2.4, 6.3.3.1, 6.3.16). A byte that is
-- stored is read before by the same lines alone, and no byte of the number is read again. The label is placed once in each form.
use Rattle.std.specs.Prelude.{ℕ, ◌+◌, ◌%◌, ◌==◌, Bool, false, if◌then◌else◌, List, [], ◌∷◌, ◌++◌}
use Rattle.c65_base.specs.declared.operators.BinaryOp.{BinaryOp}
use Rattle.c65_base.specs.declared.operators.BinaryOp.TheVariants as ops
use Rattle.c65_mach.specs.declared.rows.Op.TheVariants.{Adc, Bcc, Bcs, Bne, Dec, Inc, Lda, Sbc, Sec, Sta, Stx, Txa}
use Rattle.c65_code.specs.declared.line.Line.{Line}
use Rattle.c65_code.specs.declared.line.Line.TheVariants.{Label}
use Rattle.c65_genwide.specs.Lines.{value}
use Rattle.c65_genload.specs.Words.{tmp1, tmp2, implied, zero_page, branch}
use Rattle.c65_genload.specs.Numbers.{first, second}
use Rattle.c65_gendirect.specs.Words.{instruction, carry_code}
use Rattle.c65_genchange.specs.declared.spots.Spot.{Spot}
use Rattle.c65_genchange.specs.declared.spots.Target.{Target}
use Rattle.c65_genchange.specs.declared.spots.Target.TheVariants.{Byte, Word}
use Rattle.c65_genchange.specs.declared.changes.Change.{Change}
use Rattle.c65_genchange.specs.declared.changes.Change.TheVariants.{Up, Down, Number, Operand}
use Rattle.c65_genchange.specs.Spots.{reach_code, again_code, beside_code}

-- one more: the high byte goes up where the low one is 0 then
abbrev pub up_code : Target → ℕ → List Line
up_code (Byte low) label = reach_code Inc low ++ (Label label ∷ [])
up_code (Word low high) label = reach_code Inc low ++ (branch Bne label ∷ (reach_code Inc high ++ (Label label ∷ [])))

-- one less: the high byte goes down where the low one is 0 before
abbrev pub down_code : Target → ℕ → List Line
down_code (Byte low) label = reach_code Dec low ++ (Label label ∷ [])
down_code (Word low high) label = reach_code Lda low ++ (branch Bne label ∷ (reach_code Dec high ++ (Label label ∷ reach_code Dec low)))

-- ---- by a constant

-- a byte, with the carry that stands
abbrev pub byte_code : BinaryOp → ℕ → Spot → List Line
byte_code op n spot = value (instruction op) n ∷ again_code Sta spot

abbrev pub first_code : BinaryOp → ℕ → Spot → List Line
first_code op n spot = reach_code Lda spot ++ (carry_code op ++ byte_code op n spot)

abbrev pub next_code : BinaryOp → ℕ → Spot → List Line
next_code op n spot = reach_code Lda spot ++ byte_code op n spot

-- whether a byte of this number changes none
abbrev pub is_neutral : BinaryOp → ℕ → Bool
is_neutral ops.BitAnd n = n == 255
is_neutral ops.BitXor n = n == 0
is_neutral ops.BitOr n = n == 0
is_neutral op n = false

-- the high byte stays where its part of the number is 0 and nothing is carried
abbrev pub skip_code : BinaryOp → ℕ → ℕ → List Line
skip_code ops.Add n label = if n == 0 then branch Bcc label ∷ [] else []
skip_code ops.Sub n label = if n == 0 then branch Bcs label ∷ [] else []
skip_code op n label = []

abbrev pub low_code : BinaryOp → ℕ → Spot → List Line
low_code op n spot = if is_neutral op n then [] else first_code op n spot

abbrev pub high_code : BinaryOp → ℕ → Spot → ℕ → List Line
high_code op n spot label = if is_neutral op n then [] else skip_code op n label ++ next_code op n spot

-- a sum or a difference with one
abbrev pub is_one : BinaryOp → ℕ → Bool
is_one ops.Add n = n % 65536 == 1
is_one ops.Sub n = n % 65536 == 1
is_one op n = false

-- behind a low byte to which one was added, or from which one was taken: where the high byte changes A is 0 with a carry, or 255
-- without one
abbrev pub carried_code : BinaryOp → Spot → Spot → ℕ → List Line
carried_code op low high label = skip_code op 0 label ++ (beside_code Adc low high ++ again_code Sta high)

abbrev pub number_code : BinaryOp → ℕ → Target → ℕ → List Line
number_code op n (Byte low) label = low_code op (first n) low ++ (Label label ∷ [])
number_code op n (Word low high) label =
    if is_one op n then first_code op 1 low ++ (carried_code op low high label ++ (Label label ∷ []))
    else low_code op (first n) low ++ (high_code op (second n) high label ++ (Label label ∷ []))

-- ---- by the value in AX

-- AX waits
abbrev pub aside_code : List Line
aside_code = zero_page Sta tmp1 ∷ zero_page Stx tmp2 ∷ []

-- a byte of it is taken from one that lies there
abbrev pub taken_code : ℕ → Spot → List Line
taken_code at spot = zero_page Sbc at ∷ again_code Sta spot

abbrev pub less_code : Target → List Line
less_code (Byte low) = zero_page Sta tmp1 ∷ (reach_code Lda low ++ (implied Sec ∷ taken_code tmp1 low))
less_code (Word low high) = aside_code ++ (reach_code Lda low ++ (implied Sec ∷ (taken_code tmp1 low ++ (reach_code Lda high ++ taken_code tmp2 high))))

abbrev pub joined_code : BinaryOp → Spot → List Line
joined_code op spot = reach_code (instruction op) spot ++ again_code Sta spot

abbrev pub more_code : BinaryOp → Target → List Line
more_code op (Byte low) = carry_code op ++ joined_code op low
more_code op (Word low high) = carry_code op ++ (joined_code op low ++ (implied Txa ∷ joined_code op high))

abbrev pub operand_code : BinaryOp → Target → List Line
operand_code ops.Sub target = less_code target
operand_code op target = more_code op target

-- ---- the form

abbrev pub change_code : Change → ℕ → List Line
change_code (Up target) label = up_code target label
change_code (Down target) label = down_code target label
change_code (Number op n target) label = number_code op n target label
change_code (Operand op target) label = operand_code op target ++ (Label label ∷ [])

-- the same byte twice
abbrev pub fill_code : ℕ → Spot → Spot → List Line
fill_code n low high = value Lda n ∷ (reach_code Sta low ++ beside_code Sta low high)
