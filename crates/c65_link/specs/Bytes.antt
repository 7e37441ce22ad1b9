-- The bytes of lines and data once all addresses are known (MCS6500 Programming Manual, appendix B).
use Rattle.std.specs.Prelude.{ℕ, ◌+◌, ◌-◌, ◌%◌, ◌/◌, Bool, true, false, List, [], ◌∷◌, ◌++◌, slice_index}
use Rattle.c65_mach.specs.declared.rows.Op.{Op}
use Rattle.c65_mach.specs.declared.rows.Op.TheVariants as ops
use Rattle.c65_mach.specs.declared.rows.Mode.{Mode}
use Rattle.c65_mach.specs.declared.rows.Mode.TheVariants.{Implied, Accumulator, Immediate, ZeroPage, ZeroPageX, ZeroPageY, Absolute, AbsoluteX, AbsoluteY, IndirectX, IndirectY, Indirect, Relative, AbsoluteIndirectX}
use Rattle.c65_code.specs.declared.routine.Routine.{Routine}
use Rattle.c65_code.specs.declared.routine.Routine.TheVariants as routines
use Rattle.c65_code.specs.declared.line.Sym.{Sym}
use Rattle.c65_code.specs.declared.line.Operand.{Operand}
use Rattle.c65_code.specs.declared.line.Operand.TheVariants as operands
use Rattle.c65_code.specs.declared.line.Callee.{Callee}
use Rattle.c65_code.specs.declared.line.Callee.TheVariants as callees
use Rattle.c65_code.specs.declared.line.Line.{Line}
use Rattle.c65_code.specs.declared.line.Line.TheVariants.{Label, Do, Call}
use Rattle.c65_code.specs.declared.code.Datum.{Datum}
use Rattle.c65_code.specs.declared.code.DatumKind.{DatumKind}
use Rattle.c65_code.specs.declared.code.DatumKind.TheVariants.{Data, Const, Zero}
use Rattle.c65_code.specs.declared.code.DataCell.{DataCell}
use Rattle.c65_code.specs.declared.code.DataCell.TheVariants.{Byte, Address}
use Rattle.c65_code.specs.Segments.{Segment}
use Rattle.c65_link.specs.declared.bytes.Cursor.{Cursor}
use Rattle.c65_link.specs.Opcodes.{opcode_of, opposite_of}
use Rattle.c65_link.specs.Bodies.{plus, Body, body_of, offset_of, reaches, target_of, far_size, line_size}
use Rattle.c65_code.specs.Numbering.{number_of}
use Rattle.c65_link.specs.Runtime.{routine_lines}

-- low byte first
abbrev pub word_bytes : ℕ → List ℕ
word_bytes w = w % 256 ∷ w / 256 ∷ []

abbrev pub operand_bytes : Mode → ℕ → List ℕ
operand_bytes Implied w = []
operand_bytes Accumulator w = []
operand_bytes Absolute w = word_bytes w
operand_bytes AbsoluteX w = word_bytes w
operand_bytes AbsoluteY w = word_bytes w
operand_bytes Indirect w = word_bytes w
operand_bytes AbsoluteIndirectX w = word_bytes w
operand_bytes _ w = w % 256 ∷ []

abbrev pub instruction : Op → Mode → ℕ → List ℕ
instruction op mode w = opcode_of op mode ∷ operand_bytes mode w

-- the address so far behind a symbol; addresses wrap
abbrev pub located : List ℕ → Sym → ℕ → ℕ
located symbols sym offset = (slice_index symbols sym.0 + offset) % 65536

-- where lines stand, with the addresses of symbols and of routines by number
pub record Spot : Type 0 where
  pub body : Body
  pub base : ℕ
  pub symbols : List ℕ
  pub routines : List ℕ

abbrev pub label_address : Spot → ℕ → ℕ
label_address spot l = (spot.base + offset_of spot.body.near l) % 65536

abbrev pub word_of : Spot → Operand → ℕ
word_of spot operands.Nothing = 0
word_of spot (operands.Byte v) = v
word_of spot (operands.Low sym offset) = located spot.symbols sym offset % 256
word_of spot (operands.High sym offset) = located spot.symbols sym offset / 256
word_of spot (operands.Zero i) = i
word_of spot (operands.At sym offset) = located spot.symbols sym offset
word_of spot (operands.To l) = label_address spot l

-- from the end of a branch of 2 bytes to its label, as a signed byte
abbrev pub distance : ℕ → ℕ → ℕ
distance from to = (to + 65790 - from) % 256

-- a branch that does not reach is the opposite branch round a jump
abbrev pub branch_bytes : Bool → Op → ℕ → ℕ → List ℕ
branch_bytes true op from to = instruction op Relative (distance from to)
branch_bytes false op from to = instruction (opposite_of op) Relative 3 ++ instruction ops.Jmp Absolute to

abbrev pub callee_address : Spot → Callee → ℕ
callee_address spot (callees.Routine r) = slice_index spot.routines (number_of r)
callee_address spot (callees.Function f reads gives) = slice_index spot.symbols f.0
callee_address spot (callees.Pointer reads gives) = slice_index spot.routines (number_of routines.CallPtr4)

-- where the next line stands among its lines
abbrev pub step : Body → Cursor → Line → Cursor
step body cursor line = record { far = plus cursor.far (far_size line); near = plus cursor.near (line_size body.far cursor.far line) }

abbrev pub do_bytes : Spot → Cursor → Op → Mode → Operand → List ℕ
do_bytes spot cursor op Relative operand = branch_bytes (reaches cursor.far (offset_of spot.body.far (target_of operand))) op ((spot.base + cursor.near) % 65536) (label_address spot (target_of operand))
do_bytes spot cursor op mode operand = instruction op mode (word_of spot operand)

abbrev pub line_bytes : Spot → Cursor → Line → List ℕ
line_bytes spot cursor (Label l) = []
line_bytes spot cursor (Do op mode operand) = do_bytes spot cursor op mode operand
line_bytes spot cursor (Call callee) = instruction ops.Jsr Absolute (callee_address spot callee)

abbrev pub lines_bytes : Spot → Cursor → List Line → List ℕ
lines_bytes spot cursor [] = []
lines_bytes spot cursor (line ∷ lines) = line_bytes spot cursor line ++ lines_bytes spot (step spot.body cursor line) lines

-- what is written so far, and the address behind it
pub record Written : Type 0 where
  pub bytes : List ℕ
  pub at : ℕ

-- the addresses of symbols and of routines by number
pub record Tables : Type 0 where
  pub symbols : List ℕ
  pub routines : List ℕ

abbrev pub spot_of : Tables → Written → Body → Spot
spot_of tables written body = record { body = body; base = written.at % 65536; symbols = tables.symbols; routines = tables.routines }

abbrev pub with_body : Tables → Written → Body → List Line → Written
with_body tables written body lines = record { bytes = written.bytes ++ lines_bytes (spot_of tables written body) (record { far = 0; near = 0 }) lines; at = plus written.at body.size }

abbrev pub with_lines : Tables → Written → List Line → Written
with_lines tables written lines = with_body tables written (body_of lines) lines

abbrev pub with_functions : Tables → Written → List (Sym × Segment) → Written
with_functions tables written [] = written
with_functions tables written (f ∷ functions) = with_functions tables (with_lines tables written f.1.lines) functions

abbrev pub with_routines : Tables → Written → List Routine → Written
with_routines tables written [] = written
with_routines tables written (r ∷ rs) = with_routines tables (with_lines tables written (routine_lines r)) rs

abbrev pub cell_bytes : List ℕ → DataCell → List ℕ
cell_bytes symbols (Byte v) = v ∷ []
cell_bytes symbols (Address sym offset) = word_bytes (located symbols sym offset)

abbrev pub cells_bytes : List ℕ → List DataCell → List ℕ
cells_bytes symbols [] = []
cells_bytes symbols (cell ∷ cells) = cell_bytes symbols cell ++ cells_bytes symbols cells

-- zero data are not in the file
abbrev pub datum_bytes : List ℕ → DatumKind → List DataCell → List ℕ
datum_bytes symbols Zero cells = []
datum_bytes symbols _ cells = cells_bytes symbols cells

abbrev pub data_bytes : List ℕ → List Datum → List ℕ
data_bytes symbols [] = []
data_bytes symbols (datum ∷ datums) = datum_bytes symbols datum.kind datum.cells ++ data_bytes symbols datums
