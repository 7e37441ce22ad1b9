-- What the tables of opcodes, opposite branches and routines have to be.
use Rattle.std.specs.Prelude.{◌≡◌, ℕ, Bool, true, false, not, IsTrue, nat_lt, List, ◌++◌, Some, slice_get}
use Rattle.std.specs.List.{list_all}
use Rattle.c65_base.specs.declared.options.Cpu.{Cpu}
use Rattle.c65_mach.specs.declared.rows.Op.{Op}
use Rattle.c65_mach.specs.declared.rows.Mode.TheVariants.{Relative}
use Rattle.c65_mach.specs.declared.rows.Row.{Row}
use Rattle.c65_mach.specs.State.{Regs}
use Rattle.c65_mach.specs.Step.{is_taken}
use Rattle.c65_mach.specs.Table.{row_for}
use Rattle.c65_code.specs.declared.routine.Routine.{Routine}
use Rattle.c65_code.specs.declared.routine.Routine.TheVariants as routines
use Rattle.c65_code.specs.declared.line.Callee.{Callee}
use Rattle.c65_code.specs.declared.line.Callee.TheVariants as callees
use Rattle.c65_code.specs.declared.line.Line.{Line}
use Rattle.c65_code.specs.declared.line.Line.TheVariants.{Call}
use Rattle.c65_code.specs.Segments.{has_row}
use Rattle.c65_code.specs.declared.routine.TheConstants.Routine.{ALL}
use Rattle.c65_code.specs.Numbering.{number_of}
use Rattle.c65_link.specs.Opcodes.{opcode_of, opposite_of}
use Rattle.c65_link.specs.Runtime.{routine_lines}

-- each row of a processor's table of opcodes has the opcode of its operation and mode
abbrev pub OpcodesAreTheTables : Type 0
OpcodesAreTheTables = (cpu : Cpu) (byte : ℕ) (row : Row) → row_for cpu byte ≡ Some row → opcode_of row.op row.mode ≡ byte

-- the opposite of a branch is taken exactly where the branch is not
abbrev pub OppositesDiffer : Type 0
OppositesDiffer = (op : Op) (r : Regs) → IsTrue (has_row op Relative) → is_taken (opposite_of op) r ≡ not (is_taken op r)

abbrev pub is_later : Routine → Callee → Bool
is_later r (callees.Routine q) = nat_lt (number_of r) (number_of q)
is_later r (callees.Function f reads gives) = true
is_later r (callees.Pointer reads gives) = nat_lt (number_of r) (number_of routines.CallPtr4)

abbrev pub calls_later : Routine → Line → Bool
calls_later r (Call callee) = is_later r callee
calls_later r _ = true

-- a routine calls only routines that stand behind it in the table of all
abbrev pub CallsGoOn : Type 0
CallsGoOn = IsTrue (list_all (λ r. list_all (calls_later r) (routine_lines r)) ALL)
