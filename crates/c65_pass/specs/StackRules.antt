-- The rules on the software stack, each at the line of a place and the lines after it.
use Rattle.std.specs.Prelude.{ℕ, ◌+◌, ◌==◌, Bool, true, false, if◌then◌else◌, List, [], ◌∷◌, Option, Some, None}
use Rattle.c65_mach.specs.declared.rows.Op.{Op}
use Rattle.c65_mach.specs.declared.rows.Op.TheVariants as ops
use Rattle.c65_mach.specs.declared.rows.Mode.TheVariants.{Immediate}
use Rattle.c65_code.specs.declared.routine.Count.{Count}
use Rattle.c65_code.specs.declared.routine.Count.TheVariants as counts
use Rattle.c65_code.specs.declared.routine.TosOp.{TosOp}
use Rattle.c65_code.specs.declared.routine.TosOp.TheVariants as tos
use Rattle.c65_code.specs.declared.routine.Width.TheVariants.{Ax}
use Rattle.c65_code.specs.declared.routine.Routine.{Routine}
use Rattle.c65_code.specs.declared.routine.Routine.TheVariants as routines
use Rattle.c65_code.specs.declared.line.Operand.{Operand}
use Rattle.c65_code.specs.declared.line.Operand.TheVariants.{Byte}
use Rattle.c65_code.specs.declared.line.Callee.TheVariants as callees
use Rattle.c65_code.specs.declared.line.Line.{Line}
use Rattle.c65_code.specs.declared.line.Line.TheVariants.{Do, Call}
use Rattle.c65_code.specs.Access.{callee_sets}
use Rattle.c65_code.specs.Effects.{sp_bytes, ax}
use Rattle.c65_code.specs.Parts.{union_of, minus_of}
use Rattle.c65_code.specs.Rows.{number_of}
use Rattle.c65_live.specs.Tables.{Table, is_dead}
use Rattle.c65_pass.specs.Registers.{alone}
use Rattle.c65_pass.specs.Rewriting.{Rewriting}

-- whether all that a call leaves open is dead after a line: what it may change but A, X and sp, which it gives or keeps
abbrev pub is_settled : Table → ℕ → Line → Bool
is_settled table q (Call callee) = is_dead table q (minus_of (callee_sets callee) (union_of ax sp_bytes))
is_settled table q _ = false

-- other lines in place of so many, where there are such
abbrev pub in_place : Option (List Line) → Bool → ℕ → ℕ → Option Rewriting
in_place None settled count at = None
in_place (Some lines) true count at = Some (record { at = at; count = count; lines = lines })
in_place (Some lines) false count at = None

abbrev pub call_of : Routine → Line
call_of r = Call (callees.Routine r)

-- a call in place of two lines, the second of which is a call
abbrev pub one_call : Option Routine → Option (List Line)
one_call None = None
one_call (Some r) = Some (call_of r ∷ [])

-- the count of a number from 1 to 8
abbrev pub count_of : ℕ → Option Count
count_of n =
    if n == 1 then Some counts.One else (
    if n == 2 then Some counts.Two else (
    if n == 3 then Some counts.Three else (
    if n == 4 then Some counts.Four else (
    if n == 5 then Some counts.Five else (
    if n == 6 then Some counts.Six else (
    if n == 7 then Some counts.Seven else (
    if n == 8 then Some counts.Eight else None)))))))

abbrev pub raising : Option Count → Option Routine
raising None = None
raising (Some count) = Some (routines.IncSp count)

abbrev pub lowering : Option Count → Option Routine
lowering None = None
lowering (Some count) = Some (routines.DecSp count)

abbrev pub routine_if : Bool → Routine → Option Routine
routine_if true r = Some r
routine_if false r = None

-- AX pushed, and popped again
abbrev pub is_taken_back : Line → Line → Bool
is_taken_back (Call (callees.Routine routines.PushAx)) (Call (callees.Routine routines.PopAx)) = true
is_taken_back _ _ = false

abbrev pub nothing_if : Bool → Option (List Line)
nothing_if true = Some []
nothing_if false = None

-- sp moved twice in one direction
abbrev pub moved_at_once : Line → Line → Option Routine
moved_at_once (Call (callees.Routine (routines.IncSp n))) (Call (callees.Routine (routines.IncSp m))) = raising (count_of (number_of n + number_of m))
moved_at_once (Call (callees.Routine (routines.DecSp n))) (Call (callees.Routine (routines.DecSp m))) = lowering (count_of (number_of n + number_of m))
moved_at_once _ _ = None

-- sp moved by a byte in Y
abbrev pub moved_by_byte : Line → Line → Option Routine
moved_by_byte (Do ops.Ldy Immediate (Byte v)) (Call (callees.Routine routines.AddYSp)) = raising (count_of v)
moved_by_byte (Do ops.Ldy Immediate (Byte v)) (Call (callees.Routine routines.SubYSp)) = lowering (count_of v)
moved_by_byte _ _ = None

-- zero pushed
abbrev pub zero_pushed : Line → Line → Option Routine
zero_pushed (Do ops.Ldx Immediate (Byte v)) (Call (callees.Routine routines.PushAx)) = routine_if (v == 0) routines.PushA0
zero_pushed (Do ops.Lda Immediate (Byte v)) (Call (callees.Routine routines.PushA0)) = routine_if (v == 0) routines.Push0
zero_pushed _ _ = None

-- the word at sp
abbrev pub word_at_sp : Line → Line → Option Routine
word_at_sp (Do ops.Ldy Immediate (Byte v)) (Call (callees.Routine routines.LdAxYSp)) = routine_if (v == 1) routines.LdAx0Sp
word_at_sp (Do ops.Ldy Immediate (Byte v)) (Call (callees.Routine routines.StAxYSp)) = routine_if (v == 0) routines.StAx0Sp
word_at_sp _ _ = None

-- the high and the low byte of a word that is loaded, in either order
abbrev pub word_loaded : Line → Line → Option (Operand × Operand)
word_loaded (Do ops.Ldx Immediate h) (Do ops.Lda Immediate l) = Some (h, l)
word_loaded (Do ops.Lda Immediate l) (Do ops.Ldx Immediate h) = Some (h, l)
word_loaded _ _ = None

-- an operation on the low byte in A and then on the high byte in X
abbrev pub by_bytes : Op → Operand → Operand → List Line
by_bytes op h l = Do op Immediate l ∷ alone ops.Tay ∷ alone ops.Txa ∷ Do op Immediate h ∷ alone ops.Tax ∷ alone ops.Tya ∷ []

-- an operator on AX and a word: the lines that do without the software stack
abbrev pub operated : TosOp → Operand → Operand → Option (List Line)
operated tos.Add h l = Some (alone ops.Clc ∷ by_bytes ops.Adc h l)
operated tos.Sub h l = Some (alone ops.Sec ∷ by_bytes ops.Sbc h l)
operated tos.And h l = Some (by_bytes ops.And h l)
operated tos.Or h l = Some (by_bytes ops.Ora h l)
operated tos.Xor h l = Some (by_bytes ops.Eor h l)
operated _ h l = None

abbrev pub operated_by : TosOp → Option (Operand × Operand) → Option (List Line)
operated_by op None = None
operated_by op (Some word) = operated op word.0 word.1

-- AX pushed, a word loaded, and an operator on both
abbrev pub unstacked : Line → Line → Line → Line → Option (List Line)
unstacked (Call (callees.Routine routines.PushAx)) one other (Call (callees.Routine (routines.Tos op Ax))) = operated_by op (word_loaded one other)
unstacked _ one other _ = None

-- the rules on two lines, and that on four
abbrev pub undone : Table → ℕ → Line → List Line → Option Rewriting
undone table at line [] = None
undone table at line (next ∷ after) = in_place (nothing_if (is_taken_back line next)) (is_settled table (at + 1) next) 2 at

-- rules 34 to 37
abbrev pub one_routine : ℕ → Line → Line → Option Routine
one_routine rule line next =
    if rule == 34 then moved_at_once line next else (
    if rule == 35 then moved_by_byte line next else (
    if rule == 36 then zero_pushed line next else word_at_sp line next))

abbrev pub called_once : ℕ → Table → ℕ → Line → List Line → Option Rewriting
called_once rule table at line [] = None
called_once rule table at line (next ∷ after) = in_place (one_call (one_routine rule line next)) (is_settled table (at + 1) next) 2 at

abbrev pub done_in_line : Table → ℕ → Line → List Line → Option Rewriting
done_in_line table at line (one ∷ other ∷ last ∷ after) = in_place (unstacked line one other last) (is_settled table (at + 3) last) 4 at
done_in_line table at line _ = None

-- Rules 33 to 38. `after` are the lines after the line.
abbrev pub stack_rule : ℕ → Table → ℕ → Line → List Line → Option Rewriting
stack_rule rule table at line after = if rule == 33 then undone table at line after else (if rule == 38 then done_in_line table at line after else called_once rule table at line after)
