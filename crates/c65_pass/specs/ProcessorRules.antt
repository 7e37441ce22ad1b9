-- The rules for the 65C02, each at the line of a place and the lines after it.
use Rattle.std.specs.Prelude.{ℕ, ◌+◌, ◌==◌, ◌&&◌, Bool, true, false, if◌then◌else◌, List, [], ◌∷◌, Option, Some, None}
use Rattle.c65_mach.specs.declared.rows.Op.{Op}
use Rattle.c65_mach.specs.declared.rows.Op.TheVariants as ops
use Rattle.c65_mach.specs.declared.rows.Mode.{Mode}
use Rattle.c65_mach.specs.declared.rows.Mode.TheVariants.{Accumulator, Immediate, ZeroPage, Absolute, IndirectY, ZeroPageIndirect}
use Rattle.c65_code.specs.declared.parts.Part.{Part}
use Rattle.c65_code.specs.declared.parts.Part.TheVariants as parts
use Rattle.c65_code.specs.declared.line.Operand.TheVariants.{Nothing, Byte}
use Rattle.c65_code.specs.declared.line.Line.{Line}
use Rattle.c65_code.specs.declared.line.Line.TheVariants.{Do}
use Rattle.c65_code.specs.Parts.{set_of}
use Rattle.c65_live.specs.Tables.{Table, is_dead}
use Rattle.c65_pass.specs.LoadRules.{instead}
use Rattle.c65_pass.specs.Rewriting.{Rewriting}

-- a byte of the zero page or at an address, without an index
abbrev pub is_plain_place : Mode → Bool
is_plain_place ZeroPage = true
is_plain_place Absolute = true
is_plain_place _ = false

abbrev pub line_if : Bool → Line → Option Line
line_if true line = Some line
line_if false line = None

-- zero loaded in A and stored
abbrev pub zero_stored : Line → Line → Option Line
zero_stored (Do ops.Lda Immediate (Byte v)) (Do ops.Sta mode operand) = line_if ((v == 0) && is_plain_place mode) (Do ops.Stz mode operand)
zero_stored _ _ = None

-- one added to A without carry, and one taken off without borrow
abbrev pub stepped_up : Line → Line → Option Line
stepped_up (Do ops.Clc mode operand) (Do ops.Adc Immediate (Byte v)) = line_if (v == 1) (Do ops.Inc Accumulator Nothing)
stepped_up _ _ = None

abbrev pub stepped_down : Line → Line → Option Line
stepped_down (Do ops.Sec mode operand) (Do ops.Sbc Immediate (Byte v)) = line_if (v == 1) (Do ops.Dec Accumulator Nothing)
stepped_down _ _ = None

-- the byte to which a pointer of the zero page points, loaded in A and stored
abbrev pub loaded_through : Line → Line → Option Line
loaded_through (Do ops.Ldy Immediate (Byte v)) (Do ops.Lda IndirectY operand) = line_if (v == 0) (Do ops.Lda ZeroPageIndirect operand)
loaded_through _ _ = None

abbrev pub stored_through : Line → Line → Option Line
stored_through (Do ops.Ldy Immediate (Byte v)) (Do ops.Sta IndirectY operand) = line_if (v == 0) (Do ops.Sta ZeroPageIndirect operand)
stored_through _ _ = None

-- one line in place of two, where it may stand there
abbrev pub shorter : Bool → ℕ → Option Line → Option Rewriting
shorter true at line = instead 2 at line
shorter false at line = None

-- the line that a rule puts in place of two
abbrev pub short_line : ℕ → Line → Line → Option Line
short_line rule line next =
    if rule == 41 then zero_stored line next else (
    if rule == 42 then stepped_up line next else (
    if rule == 43 then stepped_down line next else (
    if rule == 44 then loaded_through line next else (
    if rule == 45 then stored_through line next else None))))

-- the parts that it leaves otherwise than the two do
abbrev pub left_otherwise : ℕ → List Part
left_otherwise rule =
    if rule == 41 then parts.A ∷ parts.N ∷ parts.Z ∷ [] else (
    if rule == 42 then parts.V ∷ parts.C ∷ [] else (
    if rule == 43 then parts.V ∷ parts.C ∷ [] else (
    if rule == 44 then parts.Y ∷ [] else parts.Y ∷ parts.N ∷ parts.Z ∷ [])))

-- Rules 41 to 45. `after` are the lines after the line.
abbrev pub processor_rule : ℕ → Table → ℕ → Line → List Line → Option Rewriting
processor_rule rule table at line [] = None
processor_rule rule table at line (next ∷ after) = shorter (is_dead table (at + 1) (set_of (left_otherwise rule))) at (short_line rule line next)
