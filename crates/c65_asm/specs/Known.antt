-- A code as assembly text with what is known before each instruction (docs/TEXT.md).
use Rattle.std.specs.Prelude.{ℕ, ◌/◌, ◌%◌, ◌++◌, Bool, if◌then◌else◌, List, [], ◌∷◌, Option, Some, None, codes}
use Rattle.c65_base.specs.Lines.{hex_digit}
use Rattle.c65_code.specs.declared.line.Line.{Line}
use Rattle.c65_code.specs.declared.line.Line.TheVariants.{Label}
use Rattle.c65_code.specs.declared.code.Code.{Code}
use Rattle.c65_code.specs.declared.code.Symbol.{Symbol}
use Rattle.c65_code.specs.Segments.{Segment}
use Rattle.c65_know.specs.declared.note.Note.{Note}
use Rattle.c65_know.specs.Known.{known_of}
use Rattle.c65_asm.specs.Text.{line_text, body_text, text_with}

-- NAME=HH, where the byte is known
abbrev pub byte_field : List ℕ → Option ℕ → List ℕ
byte_field name None = []
byte_field name (Some v) = codes " " ++ name ++ codes "=" ++ hex_digit (v / 16) ∷ hex_digit (v % 16) ∷ []

-- NAME=1 or NAME=0, where the flag is known
abbrev pub flag_field : List ℕ → Option Bool → List ℕ
flag_field name None = []
flag_field name (Some b) = codes " " ++ name ++ codes "=" ++ (if b then codes "1" else codes "0")

abbrev pub bytes_text : Note → List ℕ
bytes_text n =
    byte_field (codes "A") n.a ++ byte_field (codes "X") n.x ++ byte_field (codes "Y") n.y
    ++ byte_field (codes "S0") n.s0 ++ byte_field (codes "S1") n.s1 ++ byte_field (codes "P0") n.p0 ++ byte_field (codes "P1") n.p1 ++ byte_field (codes "T1") n.t1

abbrev pub flags_text : Note → List ℕ
flags_text n = flag_field (codes "N") n.n ++ flag_field (codes "V") n.v ++ flag_field (codes "Z") n.z ++ flag_field (codes "C") n.c

-- nothing for a note with no field
abbrev pub note_line : List ℕ → List ℕ
note_line [] = []
note_line fields = codes "\t;" ++ fields ++ codes "\n"

abbrev pub note_text : Note → List ℕ
note_text n = note_line (bytes_text n ++ flags_text n)

-- a label has no note
abbrev pub noted_text : List Symbol → Note → Line → List ℕ
noted_text symbols n (Label l) = line_text symbols (Label l)
noted_text symbols n line = note_text n ++ line_text symbols line

abbrev pub noted_lines_text : List Symbol → List Line → List Note → List ℕ
noted_lines_text symbols (line ∷ lines) (n ∷ notes) = noted_text symbols n line ++ noted_lines_text symbols lines notes
noted_lines_text symbols _ _ = []

-- the lines with their notes
abbrev pub known_body_text : List Symbol → Segment → List ℕ
known_body_text symbols s = noted_lines_text symbols s.lines (known_of s.lines)

abbrev pub known_text_of : Code → List ℕ
known_text_of code = text_with known_body_text code

-- of either text
abbrev pub body_by : Bool → List Symbol → Segment → List ℕ
body_by noted symbols s = if noted then known_body_text symbols s else body_text symbols s
