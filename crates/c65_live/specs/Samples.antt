-- What is live in made lines, and what it means that parts are dead.
use Rattle.std.specs.Prelude.{◌≡◌, ℕ, true, false, IsTrue, List, [], ◌∷◌}
use Rattle.c65_mach.specs.declared.rows.Op.TheVariants.{Cmp, Jmp, Lda, Ldx, Rts, Sta}
use Rattle.c65_mach.specs.declared.rows.Mode.TheVariants.{Implied, Immediate, ZeroPage, Absolute}
use Rattle.c65_code.specs.declared.parts.Part.{Part}
use Rattle.c65_code.specs.declared.parts.Part.TheVariants.{C, Zp}
use Rattle.c65_code.specs.declared.parts.RegSet.{RegSet}
use Rattle.c65_code.specs.declared.line.Operand.TheVariants.{Nothing, Byte, Zero, To}
use Rattle.c65_code.specs.declared.line.Line.{Line}
use Rattle.c65_code.specs.declared.line.Line.TheVariants.{Label, Do}
use Rattle.c65_code.specs.Parts.{has_part}
use Rattle.c65_code.specs.Effects.{ax}
use Rattle.c65_live.specs.Live.{IsLive}
use Rattle.c65_live.specs.Tables.{Table, live_after, is_dead}

-- L0:, LDA $10, STA $10, JMP L0
abbrev pub turns : List Line
turns = Label 0 ∷ Do Lda ZeroPage (Zero 16) ∷ Do Sta ZeroPage (Zero 16) ∷ Do Jmp Absolute (To 0) ∷ []

-- LDA #$05, STA $10, LDX #$00, RTS
abbrev pub stored_last : List Line
stored_last = Do Lda Immediate (Byte 5) ∷ Do Sta ZeroPage (Zero 16) ∷ Do Ldx Immediate (Byte 0) ∷ Do Rts Implied Nothing ∷ []

-- CMP #$00, RTS
abbrev pub compared_last : List Line
compared_last = Do Cmp Immediate (Byte 0) ∷ Do Rts Implied Nothing ∷ []

-- the loop reads the byte in its next turn
abbrev pub LoopKeepsByte : Type 0
LoopKeepsByte = IsLive turns ax 2 (Zp 16)

-- a function that gives A and X leaves nothing in $10, nor in C
abbrev pub ReturnForgetsByte : Type 0
ReturnForgetsByte = IsLive stored_last ax 1 (Zp 16) → ⊥

abbrev pub ReturnForgetsCarry : Type 0
ReturnForgetsCarry = IsLive compared_last ax 0 C → ⊥

-- the caller finds sp as it was
abbrev pub ReturnKeepsSp : Type 0
ReturnKeepsSp = IsLive compared_last ax 0 (Zp 0)

-- none of the parts that are dead after a line is in its set
abbrev pub DeadIsNotLive : Type 0
DeadIsNotLive = (table : Table) (q : ℕ) (parts : RegSet) → is_dead table q parts ≡ true → (part : Part) → IsTrue (has_part parts part) → has_part (live_after table q) part ≡ false
