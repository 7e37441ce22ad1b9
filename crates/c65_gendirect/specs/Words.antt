-- Operators whose right or left operand is read where it lies, and the other one is in AX or EAX (C90 6.3.6, 6.3.10 to 6.3.12).
-- Labels that are named are placed once in each form.
use Rattle.std.specs.Prelude.{ℕ, ◌+◌, ◌-◌, ◌%◌, nat_lt, ◌==◌, ◌&&◌, Bool, true, false, if◌then◌else◌, List, [], ◌∷◌, ◌++◌}
use Rattle.c65_base.specs.declared.operators.BinaryOp.{BinaryOp}
use Rattle.c65_base.specs.declared.operators.BinaryOp.TheVariants as ops
use Rattle.c65_mach.specs.declared.rows.Op.{Op}
use Rattle.c65_mach.specs.declared.rows.Op.TheVariants.{Adc, And, Bcc, Bcs, Clc, Dex, Eor, Inx, Lda, Ldx, Ora, Sbc, Sec, Sta, Stx, Tax, Tay, Txa, Tya}
use Rattle.c65_code.specs.declared.line.Line.{Line}
use Rattle.c65_code.specs.declared.line.Line.TheVariants.{Label}
use Rattle.c65_genwide.specs.Lines.{value}
use Rattle.c65_genload.specs.Words.{sreg, tmp1, tmp2, implied, zero_page, branch}
use Rattle.c65_genload.specs.Numbers.{first, second, third, fourth}
use Rattle.c65_gendirect.specs.declared.bytes.OperandByte.{OperandByte}
use Rattle.c65_gendirect.specs.declared.bytes.OperandByte.TheVariants.{Number}
use Rattle.c65_gendirect.specs.Bytes.{op_of, aside, back}

-- of `+`, `-`, `&`, `^` and `|`
abbrev pub instruction : BinaryOp → Op
instruction ops.Add = Adc
instruction ops.Sub = Sbc
instruction ops.BitAnd = And
instruction ops.BitXor = Eor
instruction _ = Ora

-- a sum begins with no carry, a difference with no borrow
abbrev pub carry_code : BinaryOp → List Line
carry_code ops.Add = implied Clc ∷ []
carry_code ops.Sub = implied Sec ∷ []
carry_code _ = []

-- on the low byte of AX
abbrev pub first_byte_code : BinaryOp → OperandByte → List Line
first_byte_code op low = carry_code op ++ op_of (instruction op) low

-- AX by an operator and a word
abbrev pub both_bytes_code : BinaryOp → OperandByte → OperandByte → List Line
both_bytes_code op low high = first_byte_code op low ++ (aside high ∷ implied Txa ∷ (op_of (instruction op) high ++ (implied Tax ∷ back high ∷ [])))

-- the high byte of the word is 0: a carry goes on to the next byte
abbrev pub onward_code : BinaryOp → ℕ → List Line
onward_code ops.Add fresh = branch Bcc fresh ∷ implied Inx ∷ Label fresh ∷ []
onward_code ops.Sub fresh = branch Bcs fresh ∷ implied Dex ∷ Label fresh ∷ []
onward_code ops.BitAnd fresh = value Ldx 0 ∷ []
onward_code _ fresh = []

-- only sums and differences have a label
abbrev pub end_label : BinaryOp → ℕ → List Line
end_label ops.Add fresh = Label fresh ∷ []
end_label ops.Sub fresh = Label fresh ∷ []
end_label _ fresh = []

abbrev pub is_and : BinaryOp → Bool
is_and ops.BitAnd = true
is_and _ = false

abbrev pub is_number : ℕ → OperandByte → Bool
is_number n (Number m) = m == n
is_number n _ = false

-- AX by an operator and a word, whose high byte may leave X alone
abbrev pub word_code : BinaryOp → OperandByte → OperandByte → ℕ → List Line
word_code op low high fresh =
    if is_number 0 high then first_byte_code op low ++ onward_code op fresh
    else (if is_and op && is_number 255 high then first_byte_code op low
    else both_bytes_code op low high ++ end_label op fresh)

-- AX and a word, without a label
abbrev pub sum_code : OperandByte → OperandByte → List Line
sum_code low high = both_bytes_code ops.Add low high

-- n is added to AX, modulo 65,536; its negative is taken away where that is one byte
abbrev pub add_number_code : ℕ → ℕ → List Line
add_number_code n fresh =
    if n % 65536 == 0 then Label fresh ∷ []
    else (if second n == 255 && nat_lt 0 (first n) then word_code ops.Sub (Number (256 - first n)) (Number 0) fresh
    else word_code ops.Add (Number (first n)) (Number (second n)) fresh)

-- AX is taken from a word
abbrev pub taken_from_code : OperandByte → OperandByte → List Line
taken_from_code low high =
    zero_page Sta tmp1 ∷ zero_page Stx tmp2 ∷ (op_of Lda low ++ (implied Sec ∷ zero_page Sbc tmp1 ∷ aside high ∷ (op_of Lda high ++ (zero_page Sbc tmp2 ∷ implied Tax ∷ back high ∷ []))))

-- EAX by `&`, `^` or `|` and n
abbrev pub long_mask_code : BinaryOp → ℕ → List Line
long_mask_code op n =
    value (instruction op) (first n) ∷ implied Tay ∷ implied Txa ∷ value (instruction op) (second n) ∷ implied Tax ∷ zero_page Lda sreg ∷ value (instruction op) (third n) ∷ zero_page Sta sreg ∷ zero_page Lda (sreg + 1) ∷ value (instruction op) (fourth n) ∷ zero_page Sta (sreg + 1) ∷ implied Tya ∷ []
