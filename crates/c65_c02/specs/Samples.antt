-- What each of the rules makes of two lines, and lines that it leaves.
use Rattle.std.specs.Prelude.{ℕ, List, [], ◌∷◌, Option, Some}
use Rattle.c65_mach.specs.declared.rows.Op.{Op}
use Rattle.c65_mach.specs.declared.rows.Op.TheVariants as ops
use Rattle.c65_mach.specs.declared.rows.Mode.TheVariants.{Accumulator, Immediate, IndirectY, ZeroPageIndirect}
use Rattle.c65_code.specs.declared.parts.Part.{Part}
use Rattle.c65_code.specs.declared.line.Operand.TheVariants.{Nothing, Byte, Zero}
use Rattle.c65_code.specs.declared.line.Line.{Line}
use Rattle.c65_code.specs.declared.line.Line.TheVariants.{Do}
use Rattle.c65_code.specs.Parts.{no_parts, set_of}
use Rattle.c65_know.specs.Known.{annotated}
use Rattle.c65_pass.specs.Registers.{alone}
use Rattle.c65_pass.specs.Rewriting.{Rewriting}
use Rattle.c65_pass.specs.Rules.{match_at}

-- what a rule makes of two lines and RTS, where these parts are live behind the two
abbrev pub made : ℕ → Line → Line → List Part → Option Rewriting
made rule line next live = match_at rule [] (annotated (line ∷ next ∷ alone ops.Rts ∷ []) no_parts) (record { after = no_parts ∷ set_of live ∷ no_parts ∷ [] }) 0

-- one line stands for both
abbrev pub both_are : Line → Option Rewriting
both_are line = Some (record { at = 0; count = 2; lines = line ∷ [] })

-- an operation with a byte, on A, and on the byte to which a pointer of the zero page points, with Y and without
abbrev pub byte : Op → ℕ → Line
byte op v = Do op Immediate (Byte v)

abbrev pub on_a : Op → Line
on_a op = Do op Accumulator Nothing

abbrev pub indexed : Op → ℕ → Line
indexed op i = Do op IndirectY (Zero i)

abbrev pub through : Op → ℕ → Line
through op i = Do op ZeroPageIndirect (Zero i)
