-- How many instructions a move may take (docs/MEANING.md, "Weights"), and how many bytes a line may take.
use Rattle.std.specs.Prelude.{◌≡◌, ℕ, ◌+◌, List, [], ◌∷◌, Option, Some, None}
use Rattle.c65_mach.specs.declared.rows.Mode.{Mode}
use Rattle.c65_mach.specs.declared.rows.Mode.TheVariants.{Relative}
use Rattle.c65_mach.specs.Step.{size_of}
use Rattle.c65_code.specs.declared.routine.Routine.{Routine}
use Rattle.c65_code.specs.declared.routine.Routine.TheVariants as routines
use Rattle.c65_code.specs.declared.routine.UnaryRoutine.TheVariants.{Neg, Compl, Shl1, Shr1, Asr1}
use Rattle.c65_code.specs.declared.routine.Width.TheVariants.{Ax}
use Rattle.c65_base.specs.declared.library.Library.{Library}
use Rattle.c65_code.specs.declared.line.Callee.{Callee}
use Rattle.c65_code.specs.declared.line.Callee.TheVariants as callees
use Rattle.c65_code.specs.declared.line.Line.{Line}
use Rattle.c65_code.specs.declared.line.Line.TheVariants.{Label, Do, Call}
use Rattle.c65_code.specs.declared.code.Code.{Code}
use Rattle.c65_code.specs.LineState.{State}
use Rattle.c65_code.specs.Placement.{Setting}
use Rattle.c65_code.specs.Segments.{Segment}
use Rattle.c65_code.specs.declared.line.Sym.{Sym}
use Rattle.c65_code.specs.Forms.{Form, Branch, Run, Enter, Through}
use Rattle.c65_code.specs.Rows.{Row, row_of}
use Rattle.c65_code.specs.Moves.{IsCallee}

abbrev pub row_cost : Option Row → ℕ
row_cost None = 1
row_cost (Some row) = row.cost

-- a call of a function weighs 8, and that of a routine under a function's name 8 more than the routine
abbrev pub call_weight : Option Library → State → ℕ
call_weight None t = 8
call_weight (Some library) t = 8 + row_cost (row_of (routines.Library library) t)

-- what a move by a line weighs
abbrev pub Weighs : Setting → Form → State → ℕ → Type 0
Weighs s (Branch op l) t w = w ≡ 2
Weighs s (Run r) t w = w ≡ row_cost (row_of r t)
Weighs s (Enter f reads gives) t w = w ≡ call_weight (s.library f) t
Weighs s (Through reads gives) t w = (f : ℕ) × IsCallee s t f × (w ≡ call_weight (s.library f) t)
Weighs s _ t w = w ≡ 1

-- Calls of these routines may later stand as lines of their own, of at most 13 bytes.
abbrev pub routine_size : Routine → ℕ
routine_size routines.LdAxYSp = 13
routine_size routines.LdAx0Sp = 13
routine_size routines.StAxYSp = 13
routine_size (routines.Unary Neg Ax) = 13
routine_size (routines.Unary Compl Ax) = 13
routine_size (routines.Unary Shl1 Ax) = 13
routine_size (routines.Unary Shr1 Ax) = 13
routine_size (routines.Unary Asr1 Ax) = 13
routine_size (routines.Library f) = 60
routine_size _ = 3

abbrev pub callee_size : Callee → ℕ
callee_size (callees.Routine r) = routine_size r
callee_size _ = 3

-- a branch that does not reach is the opposite branch round a jump
abbrev pub mode_size : Mode → ℕ
mode_size Relative = 5
mode_size mode = size_of mode

abbrev pub line_size : Line → ℕ
line_size (Label l) = 0
line_size (Do op mode operand) = mode_size mode
line_size (Call callee) = callee_size callee

abbrev pub lines_size : List Line → ℕ
lines_size [] = 0
lines_size (line ∷ lines) = line_size line + lines_size lines

abbrev pub functions_size : List (Sym × Segment) → ℕ
functions_size [] = 0
functions_size (f ∷ functions) = lines_size f.1.lines + functions_size functions

-- the extent of a code: the bytes that its lines take at most
abbrev pub extent_of : Code → ℕ
extent_of code = functions_size code.functions
