-- What each of the rules makes of some lines, and lines that it leaves.
use Rattle.std.specs.Prelude.{ℕ, List, [], ◌∷◌, Option, Some, None}
use Rattle.c65_mach.specs.declared.rows.Op.{Op}
use Rattle.c65_mach.specs.declared.rows.Op.TheVariants as ops
use Rattle.c65_mach.specs.declared.rows.Mode.TheVariants.{Implied, Immediate, Absolute, Relative}
use Rattle.c65_code.specs.declared.line.Operand.TheVariants.{Nothing, Byte, To}
use Rattle.c65_code.specs.declared.line.Line.{Line}
use Rattle.c65_code.specs.declared.line.Line.TheVariants.{Label, Do}
use Rattle.c65_code.specs.Parts.{no_parts}
use Rattle.c65_know.specs.Known.{annotated}
use Rattle.c65_pass.specs.Rewriting.{Rewriting, rewritten}
use Rattle.c65_pass.specs.Rules.{match_at}

-- what a rule makes at a place; these rules ask no table of what is live
abbrev pub made : ℕ → List Line → ℕ → Option Rewriting
made rule lines at = match_at rule [] (annotated lines no_parts) (record { after = [] }) at

abbrev pub replacing : ℕ → ℕ → List Line → Option Rewriting
replacing at count lines = Some (record { at = at; count = count; lines = lines })

abbrev pub rewritten_by : List Line → Option Rewriting → List Line
rewritten_by lines None = lines
rewritten_by lines (Some w) = rewritten lines w

abbrev pub step : ℕ → List Line → List Line
step rule lines = rewritten_by lines (made rule lines 0)

abbrev pub jump : ℕ → Line
jump l = Do ops.Jmp Absolute (To l)

abbrev pub branch : Op → ℕ → Line
branch op l = Do op Relative (To l)

abbrev pub load : ℕ → Line
load v = Do ops.Lda Immediate (Byte v)

abbrev pub ends : Line
ends = Do ops.Rts Implied Nothing

-- L1 leads to L2, L2 and L3 to L4
abbrev pub chain : List Line
chain = Label 1 ∷ jump 2 ∷ Label 2 ∷ Label 3 ∷ jump 4 ∷ Label 4 ∷ ends ∷ []

-- JMP L1; LDA #$01; L1: LDA #$02; LDX #$00; RTS
abbrev pub passed_load : List Line
passed_load = jump 1 ∷ load 1 ∷ Label 1 ∷ load 2 ∷ Do ops.Ldx Immediate (Byte 0) ∷ ends ∷ []
