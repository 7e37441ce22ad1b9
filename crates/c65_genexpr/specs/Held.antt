-- A word that waits in ptr2 while the lines of another value come, which have to leave it there.
use Rattle.std.specs.Prelude.{ℕ, ◌+◌, List, [], ◌∷◌}
use Rattle.c65_mach.specs.declared.rows.Op.TheVariants.{Ldy, Pha, Pla, Sta, Stx, Txa}
use Rattle.c65_code.specs.declared.line.Line.{Line}
use Rattle.c65_genwide.specs.Lines.{value}
use Rattle.c65_genload.specs.Words.{implied, zero_page, by_y}
use Rattle.c65_genload.specs.Places.{byte_more}
use Rattle.c65_gendirect.specs.declared.bytes.OperandByte.{OperandByte}
use Rattle.c65_gendirect.specs.declared.bytes.OperandByte.TheVariants.{Zero}

abbrev pub ptr2 : ℕ
ptr2 = 10

-- its two bytes
abbrev pub held_low : OperandByte
held_low = Zero ptr2

abbrev pub held_high : OperandByte
held_high = Zero (ptr2 + 1)

-- AX begins to wait
abbrev pub keep_code : List Line
keep_code = zero_page Sta ptr2 ∷ zero_page Stx (ptr2 + 1) ∷ []

-- A begins to wait
abbrev pub keep_byte_code : List Line
keep_byte_code = zero_page Sta ptr2 ∷ []

-- A goes so far behind the address that waits
abbrev pub byte_behind_code : ℕ → List Line
byte_behind_code at = value Ldy at ∷ by_y Sta ptr2 ∷ []

-- AX goes there, and stays
abbrev pub word_behind_code : ℕ → List Line
word_behind_code at = value Ldy at ∷ by_y Sta ptr2 ∷ implied Pha ∷ implied Txa ∷ value Ldy (byte_more at 1) ∷ by_y Sta ptr2 ∷ implied Pla ∷ []
