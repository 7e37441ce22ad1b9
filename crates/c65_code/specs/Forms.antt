-- What kind of line a line is: the operations by the parts of the state that they act on.
use Rattle.std.specs.Prelude.{ℕ}
use Rattle.c65_mach.specs.declared.rows.Op.{Op}
use Rattle.c65_mach.specs.declared.rows.Op.TheVariants as ops
use Rattle.c65_mach.specs.declared.rows.Mode.{Mode}
use Rattle.c65_mach.specs.Step.{Kind, Branches, Moves, kind_of}
use Rattle.c65_code.specs.declared.parts.RegSet.{RegSet}
use Rattle.c65_code.specs.declared.routine.Routine.{Routine}
use Rattle.c65_code.specs.declared.line.Operand.{Operand}
use Rattle.c65_code.specs.declared.line.Operand.TheVariants.{Zero, To}
use Rattle.c65_code.specs.declared.line.Callee.{Callee}
use Rattle.c65_code.specs.declared.line.Callee.TheVariants as callees
use Rattle.c65_code.specs.declared.line.Line.{Line}
use Rattle.c65_code.specs.declared.line.Line.TheVariants.{Label, Do, Call}

pub data Form : Type 0 where
  -- a label, at which nothing happens
  Mark : Form
  -- an operation on registers, the zero page and memory, after which the next line comes
  Plain : (op : Op) (mode : Mode) (operand : Operand) → Form
  Branch : (op : Op) (label : ℕ) → Form
  Jump : (label : ℕ) → Form
  -- a jump through a word of the zero page
  Far : (at : ℕ) → Form
  -- PHA, PLA, TSX and RTS
  Push : Form
  Pull : Form
  Depth : Form
  Return : Form
  -- calls: of a routine, of a function, and through ptr4
  Run : (routine : Routine) → Form
  Enter : (function : ℕ) (reads gives : RegSet) → Form
  Through : (reads gives : RegSet) → Form
  -- a line that no segment holds
  Stray : Form

abbrev pub branch_form : Op → Operand → Form
branch_form op (To l) = Branch op l
branch_form op _ = Stray

abbrev pub jump_form : Operand → Form
jump_form (To l) = Jump l
jump_form (Zero i) = Far i
jump_form _ = Stray

abbrev pub move_form : Op → Operand → Form
move_form ops.Jmp operand = jump_form operand
move_form ops.Pha operand = Push
move_form ops.Pla operand = Pull
move_form ops.Tsx operand = Depth
move_form ops.Rts operand = Return
move_form _ operand = Stray

abbrev pub op_form : Kind → Op → Mode → Operand → Form
op_form Branches op mode operand = branch_form op operand
op_form Moves op mode operand = move_form op operand
op_form _ op mode operand = Plain op mode operand

abbrev pub callee_form : Callee → Form
callee_form (callees.Routine r) = Run r
callee_form (callees.Function f reads gives) = Enter f.0 reads gives
callee_form (callees.Pointer reads gives) = Through reads gives

abbrev pub form_of : Line → Form
form_of (Label l) = Mark
form_of (Do op mode operand) = op_form (kind_of op) op mode operand
form_of (Call callee) = callee_form callee

-- a line that acts on the state alone, and leaves the active function active
abbrev pub IsLocal : Form → Type 0
IsLocal Mark = ⊥
IsLocal (Far i) = ⊥
IsLocal Return = ⊥
IsLocal (Enter f reads gives) = ⊥
IsLocal (Through reads gives) = ⊥
IsLocal Stray = ⊥
IsLocal _ = Unit {0}
