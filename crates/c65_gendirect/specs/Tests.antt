-- Values that are tested where they lie, and truth values (C90 6.3.8, 6.3.9, 6.3.13, 6.3.14).
use Rattle.std.specs.Prelude.{ℕ, ◌+◌, Bool, if◌then◌else◌, List, [], ◌∷◌, ◌++◌}
use Rattle.c65_mach.specs.declared.rows.Op.TheVariants.{Beq, Bne, Lda, Ldx, Ora}
use Rattle.c65_code.specs.declared.line.Line.{Line}
use Rattle.c65_code.specs.declared.line.Line.TheVariants.{Label}
use Rattle.c65_genwide.specs.Lines.{value}
use Rattle.c65_genload.specs.Words.{branch}
use Rattle.c65_gendirect.specs.declared.bytes.OperandByte.{OperandByte}
use Rattle.c65_gendirect.specs.Bytes.{op_of}

-- A, and with the bits of these bytes
abbrev pub or_code : List OperandByte → List Line
or_code [] = []
or_code (byte ∷ bytes) = op_of Ora byte ++ or_code bytes

-- Z says whether the bytes are all 0
abbrev pub all_zero_code : List OperandByte → List Line
all_zero_code [] = value Lda 0 ∷ []
all_zero_code (byte ∷ bytes) = op_of Lda byte ++ or_code bytes

-- to the label where whether the bytes are not all 0 is sense
abbrev pub zero_test_code : List OperandByte → Bool → ℕ → List Line
zero_test_code bytes sense to = all_zero_code bytes ++ (branch (if sense then Bne else Beq) to ∷ [])

-- AX is 1, or where the first label is gone to 0; the second label is the next one
abbrev pub truth_code : ℕ → List Line
truth_code fresh = value Lda 1 ∷ branch Bne (fresh + 1) ∷ Label fresh ∷ value Lda 0 ∷ Label (fresh + 1) ∷ value Ldx 0 ∷ []
