-- Lines that stand for others whatever is live behind them, with nothing known before them.
use Rattle.std.specs.Prelude.{◌≡◌, ℕ, ◌+◌, ◌<◌, List, [], ◌∷◌, Some}
use Rattle.c65_mach.specs.declared.rows.Op.{Op}
use Rattle.c65_mach.specs.declared.rows.Op.TheVariants as ops
use Rattle.c65_mach.specs.declared.rows.Mode.TheVariants.{Immediate}
use Rattle.c65_code.specs.declared.line.Line.{Line}
use Rattle.c65_code.specs.declared.line.Line.TheVariants.{Do}
use Rattle.c65_code.specs.declared.line.Operand.TheVariants.{Byte}
use Rattle.c65_code.specs.declared.parts.RegSet.{RegSet}
use Rattle.c65_code.specs.declared.routine.Count.{Count}
use Rattle.c65_code.specs.declared.routine.TosOp.{TosOp}
use Rattle.c65_code.specs.declared.routine.Width.TheVariants.{Ax}
use Rattle.c65_code.specs.declared.routine.Routine.{Routine}
use Rattle.c65_code.specs.declared.routine.Routine.TheVariants as routines
use Rattle.c65_code.specs.Placement.{Setting}
use Rattle.c65_code.specs.Rows.{number_of}
use Rattle.c65_pass.specs.StackRules.{call_of, operated}
use Rattle.c65_opt_law_follow.specs.Windows.{WayOut, Justified}

abbrev pub StandFor : List Line → List Line → Type 0
StandFor new old = (s : Setting) (to : WayOut → ℕ) (after : WayOut → RegSet) → Justified s to after (λ t. Unit {0}) old new

abbrev pub byte_in : Op → ℕ → Line
byte_in load v = Do load Immediate (Byte v)

-- one call for two lines
abbrev pub OneStands : Routine → Line → Routine → Type 0
OneStands new first last = StandFor (call_of new ∷ []) (first ∷ call_of last ∷ [])

-- AX pushed, and popped again
abbrev pub PushGoes : Type 0
PushGoes = StandFor [] (call_of routines.PushAx ∷ call_of routines.PopAx ∷ [])

-- sp moved twice in one direction
abbrev pub MovesJoin : Type 0
MovesJoin = (n m sum : Count) → number_of sum ≡ number_of n + number_of m
    → OneStands (routines.IncSp sum) (call_of (routines.IncSp n)) (routines.IncSp m) × OneStands (routines.DecSp sum) (call_of (routines.DecSp n)) (routines.DecSp m)

-- sp moved by a byte in Y
abbrev pub BytesMove : Type 0
BytesMove = (count : Count) → OneStands (routines.IncSp count) (byte_in ops.Ldy (number_of count)) routines.AddYSp × OneStands (routines.DecSp count) (byte_in ops.Ldy (number_of count)) routines.SubYSp

-- zero pushed
abbrev pub ZerosPush : Type 0
ZerosPush = OneStands routines.PushA0 (byte_in ops.Ldx 0) routines.PushAx × OneStands routines.Push0 (byte_in ops.Lda 0) routines.PushA0

-- the word at sp
abbrev pub WordsAtSp : Type 0
WordsAtSp = OneStands routines.LdAx0Sp (byte_in ops.Ldy 1) routines.LdAxYSp × OneStands routines.StAx0Sp (byte_in ops.Ldy 0) routines.StAxYSp

-- an operator on AX and a word, on the low byte and then on the high byte
abbrev pub OperatorsInLine : Type 0
OperatorsInLine = (op : TosOp) (h l : ℕ) (lines : List Line) → h < 256 → l < 256 → operated op (Byte h) (Byte l) ≡ Some lines
    → StandFor lines (call_of routines.PushAx ∷ byte_in ops.Ldx h ∷ byte_in ops.Lda l ∷ call_of (routines.Tos op Ax) ∷ [])
