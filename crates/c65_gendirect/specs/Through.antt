-- Values stored so far behind a pointer, at most 250 bytes, where the value or the pointer is read where it lies (C90 6.3.16.1). A
-- word that lies where it may change is read whole before a byte of it is stored, as the two may overlap. A, or AX, is the value then.
use Rattle.std.specs.Prelude.{ℕ, ◌+◌, List, [], ◌∷◌, ◌++◌}
use Rattle.c65_mach.specs.declared.rows.Op.TheVariants.{Dey, Lda, Ldy, Pha, Pla, Sta, Tax, Txa}
use Rattle.c65_code.specs.declared.line.Line.{Line}
use Rattle.c65_genwide.specs.Lines.{value}
use Rattle.c65_genload.specs.Words.{ptr1, implied, zero_page, by_y}
use Rattle.c65_genload.specs.Places.{byte_more}
use Rattle.c65_gendirect.specs.declared.bytes.OperandByte.{OperandByte}
use Rattle.c65_gendirect.specs.declared.through.Stored.{Stored}
use Rattle.c65_gendirect.specs.declared.through.Stored.TheVariants.{Single, Word, Fixed}
use Rattle.c65_gendirect.specs.Bytes.{op_of}

-- the bytes of the value, where ptr1 is the pointer
abbrev pub read_bytes_code : ℕ → Stored → List Line
read_bytes_code at (Single low) = op_of Lda low ++ (value Ldy at ∷ by_y Sta ptr1 ∷ [])
read_bytes_code at (Word low high) = op_of Lda low ++ (implied Pha ∷ (op_of Lda high ++ (value Ldy (byte_more at 1) ∷ by_y Sta ptr1 ∷ implied Tax ∷ implied Dey ∷ implied Pla ∷ by_y Sta ptr1 ∷ [])))
read_bytes_code at (Fixed low high) = op_of Lda high ++ (value Ldy (byte_more at 1) ∷ by_y Sta ptr1 ∷ implied Tax ∷ (op_of Lda low ++ (value Ldy at ∷ by_y Sta ptr1 ∷ [])))

-- ptr1 is a pointer that is read
abbrev pub point_code : OperandByte → OperandByte → List Line
point_code low high = op_of Lda low ++ (zero_page Sta ptr1 ∷ (op_of Lda high ++ (zero_page Sta (ptr1 + 1) ∷ [])))

-- A goes there
abbrev pub byte_through_code : ℕ → OperandByte → OperandByte → List Line
byte_through_code at low high = implied Tax ∷ (point_code low high ++ (implied Txa ∷ value Ldy at ∷ by_y Sta ptr1 ∷ []))

-- AX goes there
abbrev pub word_through_code : ℕ → OperandByte → OperandByte → List Line
word_through_code at low high = implied Pha ∷ (point_code low high ++ (value Ldy (byte_more at 1) ∷ implied Txa ∷ by_y Sta ptr1 ∷ implied Dey ∷ implied Pla ∷ by_y Sta ptr1 ∷ []))
