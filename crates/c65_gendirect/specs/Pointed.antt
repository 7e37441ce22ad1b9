-- The pointer in ptr1: how it comes there, and what is read behind it (C90 6.2.2.1, 6.3.6).
use Rattle.std.specs.Prelude.{ℕ, ◌+◌, List, [], ◌∷◌, ◌++◌}
use Rattle.c65_base.specs.declared.operators.BinaryOp.TheVariants.{Add}
use Rattle.c65_mach.specs.declared.rows.Op.TheVariants.{Adc, Dey, Lda, Ldy, Sta, Stx, Tax, Txa}
use Rattle.c65_code.specs.declared.line.Line.{Line}
use Rattle.c65_genwide.specs.Lines.{value}
use Rattle.c65_genload.specs.Words.{ptr1, implied, zero_page, by_y}
use Rattle.c65_genload.specs.Places.{byte_more}
use Rattle.c65_genload.specs.declared.places.Extent.{Extent}
use Rattle.c65_genload.specs.declared.places.Extent.TheVariants.{One}
use Rattle.c65_gendirect.specs.declared.bytes.OperandByte.{OperandByte}
use Rattle.c65_gendirect.specs.Bytes.{op_of}
use Rattle.c65_gendirect.specs.Words.{first_byte_code}

-- AX goes there
abbrev pub pointer_code : List Line
pointer_code = zero_page Sta ptr1 ∷ zero_page Stx (ptr1 + 1) ∷ []

-- the sum of AX and a word goes there byte by byte
abbrev pub pointed_sum_code : OperandByte → OperandByte → List Line
pointed_sum_code low high = first_byte_code Add low ++ (zero_page Sta ptr1 ∷ implied Txa ∷ (op_of Adc high ++ (zero_page Sta (ptr1 + 1) ∷ [])))

-- one byte so far behind it comes to A, or two to AX; at most 250
abbrev pub behind_pointer_code : ℕ → Extent → List Line
behind_pointer_code at One = value Ldy at ∷ by_y Lda ptr1 ∷ []
behind_pointer_code at extent = value Ldy (byte_more at 1) ∷ by_y Lda ptr1 ∷ implied Tax ∷ implied Dey ∷ by_y Lda ptr1 ∷ []
