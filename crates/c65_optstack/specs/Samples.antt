-- What each of the rules makes of some lines, and lines that it leaves.
use Rattle.std.specs.Prelude.{ℕ, List, [], ◌∷◌, Option, Some}
use Rattle.c65_mach.specs.declared.rows.Op.{Op}
use Rattle.c65_mach.specs.declared.rows.Op.TheVariants as ops
use Rattle.c65_mach.specs.declared.rows.Mode.TheVariants.{Immediate}
use Rattle.c65_code.specs.declared.parts.RegSet.{RegSet}
use Rattle.c65_code.specs.declared.routine.TosOp.{TosOp}
use Rattle.c65_code.specs.declared.routine.Width.TheVariants.{Ax}
use Rattle.c65_code.specs.declared.routine.Routine.TheVariants as routines
use Rattle.c65_code.specs.declared.line.Operand.TheVariants.{Byte}
use Rattle.c65_code.specs.declared.line.Line.{Line}
use Rattle.c65_code.specs.declared.line.Line.TheVariants.{Do}
use Rattle.c65_code.specs.Effects.{ax, eax}
use Rattle.c65_code.specs.Parts.{no_parts, all_parts}
use Rattle.c65_know.specs.Known.{annotated}
use Rattle.c65_pass.specs.Registers.{alone}
use Rattle.c65_pass.specs.Rewriting.{Rewriting}
use Rattle.c65_pass.specs.Rules.{match_at}
use Rattle.c65_pass.specs.StackRules.{call_of}

-- what a rule makes of the first lines, where these parts are live after each of them
abbrev pub made : ℕ → RegSet → List Line → Option Rewriting
made rule live lines = match_at rule [] (annotated lines no_parts) (record { after = live ∷ live ∷ live ∷ live ∷ [] }) 0

-- where A and X are live, where sreg is too, and where all parts are
abbrev pub made_given : ℕ → List Line → Option Rewriting
made_given rule = made rule ax

abbrev pub made_long : ℕ → List Line → Option Rewriting
made_long rule = made rule eax

abbrev pub made_live : ℕ → List Line → Option Rewriting
made_live rule = made rule all_parts

abbrev pub replacing : ℕ → List Line → Option Rewriting
replacing count lines = Some (record { at = 0; count = count; lines = lines })

abbrev pub of_byte : Op → ℕ → Line
of_byte op v = Do op Immediate (Byte v)

-- AX pushed, $0102 loaded, and an operator on both
abbrev pub stacked : TosOp → List Line
stacked op = call_of routines.PushAx ∷ of_byte ops.Ldx 1 ∷ of_byte ops.Lda 2 ∷ call_of (routines.Tos op Ax) ∷ []

abbrev pub by_bytes_of : Op → List Line
by_bytes_of op = of_byte op 2 ∷ alone ops.Tay ∷ alone ops.Txa ∷ of_byte op 1 ∷ alone ops.Tax ∷ alone ops.Tya ∷ []
