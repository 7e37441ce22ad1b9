-- The rules that open calls of routines, each at the line of a place and the lines after it.
use Rattle.std.specs.Prelude.{ℕ, ◌==◌, if◌then◌else◌, List, [], ◌∷◌, Option, Some, None}
use Rattle.c65_mach.specs.declared.rows.Op.{Op}
use Rattle.c65_mach.specs.declared.rows.Op.TheVariants as ops
use Rattle.c65_mach.specs.declared.rows.Mode.TheVariants.{Accumulator, Immediate, ZeroPage, IndirectY}
use Rattle.c65_code.specs.declared.routine.Routine.{Routine}
use Rattle.c65_code.specs.declared.routine.Routine.TheVariants as routines
use Rattle.c65_code.specs.declared.routine.UnaryRoutine.TheVariants.{Neg, Compl, Shl1, Shr1, Asr1}
use Rattle.c65_code.specs.declared.routine.Width.TheVariants.{Ax}
use Rattle.c65_code.specs.declared.line.Operand.TheVariants.{Nothing, Byte, Zero}
use Rattle.c65_code.specs.declared.line.Callee.TheVariants as callees
use Rattle.c65_code.specs.declared.line.Line.{Line}
use Rattle.c65_code.specs.declared.line.Line.TheVariants.{Do, Call}
use Rattle.c65_code.specs.declared.line.Sym.{Sym}
use Rattle.c65_live.specs.Tables.{Table}
use Rattle.c65_pass.specs.KnownCalls.{known_call}
use Rattle.c65_pass.specs.Registers.{alone}
use Rattle.c65_pass.specs.Rewriting.{Rewriting}
use Rattle.c65_pass.specs.StackRules.{is_settled, in_place}

-- an operation on a byte, on the byte at sp + Y, on tmp1, and on A
abbrev pub with_byte : Op → ℕ → Line
with_byte op v = Do op Immediate (Byte v)

abbrev pub on_stack : Op → Line
on_stack op = Do op IndirectY (Zero 0)

abbrev pub on_tmp1 : Op → Line
on_tmp1 op = Do op ZeroPage (Zero 16)

abbrev pub on_a : Op → Line
on_a op = Do op Accumulator Nothing

-- the lines that do what a routine does
abbrev pub opened : Routine → Option (List Line)
opened routines.LdAxYSp = Some (on_stack ops.Lda ∷ alone ops.Tax ∷ alone ops.Dey ∷ on_stack ops.Lda ∷ [])
opened routines.LdAx0Sp = Some (with_byte ops.Ldy 1 ∷ on_stack ops.Lda ∷ alone ops.Tax ∷ alone ops.Dey ∷ on_stack ops.Lda ∷ [])
opened routines.StAxYSp = Some (on_stack ops.Sta ∷ alone ops.Pha ∷ alone ops.Txa ∷ alone ops.Iny ∷ on_stack ops.Sta ∷ alone ops.Pla ∷ [])
opened (routines.Unary Neg Ax) =
    Some (alone ops.Clc ∷ with_byte ops.Eor 255 ∷ with_byte ops.Adc 1 ∷ alone ops.Tay ∷ alone ops.Txa ∷ with_byte ops.Eor 255 ∷ with_byte ops.Adc 0 ∷ alone ops.Tax ∷ alone ops.Tya ∷ [])
opened (routines.Unary Compl Ax) = Some (with_byte ops.Eor 255 ∷ alone ops.Tay ∷ alone ops.Txa ∷ with_byte ops.Eor 255 ∷ alone ops.Tax ∷ alone ops.Tya ∷ [])
opened (routines.Unary Shl1 Ax) = Some (on_tmp1 ops.Stx ∷ on_a ops.Asl ∷ on_tmp1 ops.Rol ∷ on_tmp1 ops.Ldx ∷ [])
opened (routines.Unary Shr1 Ax) = Some (on_tmp1 ops.Stx ∷ on_tmp1 ops.Lsr ∷ on_a ops.Ror ∷ on_tmp1 ops.Ldx ∷ [])
opened (routines.Unary Asr1 Ax) = Some (with_byte ops.Cpx 128 ∷ on_tmp1 ops.Stx ∷ on_tmp1 ops.Ror ∷ on_a ops.Ror ∷ on_tmp1 ops.Ldx ∷ [])
opened _ = None

abbrev pub call_opened : Line → Option (List Line)
call_opened (Call (callees.Routine r)) = opened r
call_opened _ = None

-- Rules 39 and 40. `literals` are those of the code, `after` the lines after the line.
abbrev pub library_rule : ℕ → List (Sym × List ℕ) → Table → ℕ → Line → List Line → Option Rewriting
library_rule rule literals table at line after =
    if rule == 39 then in_place (call_opened line) (is_settled table at line) 1 at else (
    if rule == 40 then known_call literals table at line after else None)
