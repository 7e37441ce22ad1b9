-- Values that are pushed as parameters, by their bytes (docs/MACHINE.md, "Calls").
use Rattle.std.specs.Prelude.{ℕ, nat_lt, if◌then◌else◌, List, [], ◌∷◌}
use Rattle.c65_mach.specs.declared.rows.Op.TheVariants.{Iny, Lda, Ldy, Sta, Txa}
use Rattle.c65_mach.specs.declared.rows.Mode.TheVariants.{Implied, IndirectY, ZeroPage}
use Rattle.c65_code.specs.declared.line.Operand.TheVariants.{Nothing, Zero}
use Rattle.c65_code.specs.declared.line.Line.{Line}
use Rattle.c65_code.specs.declared.line.Line.TheVariants.{Do}
use Rattle.c65_code.specs.declared.routine.Count.TheVariants.{Three}
use Rattle.c65_code.specs.declared.routine.Routine.TheVariants.{DecSp, PushA, PushAx, PushEax}
use Rattle.c65_genwide.specs.Lines.{value, call}

abbrev pub sp : ℕ
sp = 0

abbrev pub sreg : ℕ
sreg = 2

-- A, X and the low byte of sreg, which A then is
abbrev pub three_code : List Line
three_code = call (DecSp Three) ∷ value Ldy 0 ∷ Do Sta IndirectY (Zero sp) ∷ Do Iny Implied Nothing ∷ Do Txa Implied Nothing ∷ Do Sta IndirectY (Zero sp) ∷ Do Iny Implied Nothing ∷ Do Lda ZeroPage (Zero sreg) ∷ Do Sta IndirectY (Zero sp) ∷ []

-- so many bytes of the primary register, from 1 to 4
abbrev pub pass_bytes : ℕ → List Line
pass_bytes bytes = if nat_lt bytes 2 then call PushA ∷ [] else (if nat_lt bytes 3 then call PushAx ∷ [] else (if nat_lt bytes 4 then three_code else call PushEax ∷ []))
