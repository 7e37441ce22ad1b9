-- A linked code as it stands in the memory of its image.
use Rattle.std.specs.Prelude.{ℕ, zero, suc, ◌+◌, ◌<◌, ◌≤◌, ◌==◌, ◌&&◌, nat_le, if◌then◌else◌, List, [], ◌∷◌, map, Option, length}
use Rattle.c65_base.specs.declared.options.Cpu.{Cpu}
use Rattle.c65_mach.specs.declared.image.Image.{Image}
use Rattle.c65_mach.specs.declared.rows.Mode.TheVariants.{Relative}
use Rattle.c65_mach.specs.State.{read, loaded_memory}
use Rattle.c65_mach.specs.Step.{size_of}
use Rattle.c65_code.specs.declared.line.Callee.{Callee}
use Rattle.c65_code.specs.declared.line.Callee.TheVariants as callees
use Rattle.c65_code.specs.declared.line.Line.{Line}
use Rattle.c65_code.specs.declared.line.Line.TheVariants.{Label, Do, Call}
use Rattle.c65_code.specs.declared.code.Code.{Code}
use Rattle.c65_code.specs.Numbering.{number_of}
use Rattle.c65_code.specs.LineState.{Place}
use Rattle.c65_code.specs.Placement.{program_start, is_function_of, setting_of}
use Rattle.c65_code.specs.RawMachine.{RawSetting}
use Rattle.c65_link.specs.Opcodes.{opcode_of}
use Rattle.c65_link.specs.Symbols.{main_in}
use Rattle.c65_link.specs.Linked.{or_zero}
use Rattle.c65_link_law.specs.Coded.{Memory}
use Rattle.c65_link_law_spots.specs.Places.{place_in, code_end, routine_count, lines_in, base_in}
use Rattle.c65_link_law_follow.specs.Agree.{Ground}

-- Where a line ends that stands at an address: a branch has two bytes where its own opcode stands there, and else five.
abbrev pub line_end : Memory → ℕ → Line → ℕ
line_end m at (Label l) = at
line_end m at (Do op Relative operand) = if m at == opcode_of op Relative then at + 2 else at + 5
line_end m at (Do op mode operand) = at + size_of mode
line_end m at (Call callee) = at + 3

-- where one of the lines stands, the first of which stands at an address
abbrev pub line_at : Memory → ℕ → List Line → ℕ → ℕ
line_at m at [] p = at
line_at m at (line ∷ lines) zero = at
line_at m at (line ∷ lines) (suc p) = line_at m (line_end m at line) lines p

-- the start calls main where its lines name symbol 0
abbrev pub to_main : ℕ → Callee → Callee
to_main main (callees.Function f reads gives) = callees.Function (record { 0 = main }) reads gives
to_main main callee = callee

abbrev pub with_main : ℕ → Line → Line
with_main main (Call callee) = Call (to_main main callee)
with_main main line = line

abbrev pub main_number : Code → ℕ
main_number code = or_zero (main_in code.symbols 0)

abbrev pub start_number : Code → ℕ
start_number code = length code.symbols + routine_count

abbrev pub unit_lines : Code → ℕ → List Line
unit_lines code f = if f == start_number code then map (with_main (main_number code)) (lines_in code f) else lines_in code f

-- functions under the numbers of their symbols, and routines under their own numbers behind all symbols
abbrev pub raw_in : Code → List (List ℕ) → RawSetting
raw_in code args = record {
  lines = unit_lines code;
  routine = λ r. length code.symbols + number_of r;
  is_function = is_function_of code;
  library = (setting_of code (place_in code)).library;
  place = place_in code;
  args = args;
}

-- an address of the code; what stands nowhere has the first one
abbrev pub kept_in : Code → ℕ → ℕ
kept_in code at = if nat_le program_start at && nat_le at (code_end code) then at else program_start

abbrev pub place_at : Code → Memory → Place → ℕ
place_at code m q = kept_in code (line_at m (base_in code q.0) (unit_lines code q.0) q.1)

-- the image's memory when its run begins, with the uppermost S and what the bytes above it lead back to
abbrev pub ground_in : Cpu → Code → Image → ℕ → Option ℕ → Ground
ground_in cpu code image top last = record {
  cpu = cpu;
  byte = read (loaded_memory image);
  end = code_end code;
  place = place_in code;
  at = place_at code (read (loaded_memory image));
  top = top;
  last = last;
}

-- a label has no byte
abbrev pub IsInstruction : Line → Type 0
IsInstruction (Label l) = ⊥
IsInstruction line = Unit {0}

-- the byte is one of those of a line
pub record IsByteOf (code : Code) (m : Memory) (q : Place) (b : ℕ) : Type 0 where
  pub from : place_at code m q ≤ b
  pub to : b < place_at code m (q.0, suc q.1)
