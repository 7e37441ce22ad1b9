-- What it is for lines to stand in memory as machine code (MCS6500 Programming Manual).
use Rattle.std.specs.Prelude.{◌≡◌, ℕ, ◌+◌, ◌%◌, ◌/◌, ◌≤◌, List, [], ◌∷◌, ◌++◌}
use Rattle.c65_mach.specs.declared.rows.Op.{Op}
use Rattle.c65_mach.specs.declared.rows.Op.TheVariants as ops
use Rattle.c65_mach.specs.declared.rows.Mode.{Mode}
use Rattle.c65_mach.specs.declared.rows.Mode.TheVariants.{Absolute, Relative}
use Rattle.c65_mach.specs.Step.{size_of, branched}
use Rattle.c65_code.specs.declared.line.Operand.{Operand}
use Rattle.c65_code.specs.declared.line.Operand.TheVariants as operands
use Rattle.c65_code.specs.declared.line.Line.{Line}
use Rattle.c65_code.specs.declared.line.Line.TheVariants.{Label, Do, Call}
use Rattle.c65_code.specs.Segments.{IsSegment}
use Rattle.c65_link.specs.Opcodes.{opcode_of, opposite_of}
use Rattle.c65_link.specs.Bodies.{body_of, offset_of, target_of}
use Rattle.c65_link.specs.Bytes.{Spot, instruction, located, callee_address, lines_bytes}

abbrev pub Memory : Type 0
Memory = ℕ → ℕ

-- bytes stand in memory from an address on
abbrev pub Stands : Memory → ℕ → List ℕ → Type 0
Stands m at [] = Unit {0}
Stands m at (byte ∷ bytes) = (m at ≡ byte) × Stands m (at + 1) bytes

-- where lines stand, a label has this address
abbrev pub label_at : Spot → ℕ → ℕ
label_at spot l = spot.base + offset_of spot.body.near l

abbrev pub word_at : Spot → Operand → ℕ
word_at spot operands.Nothing = 0
word_at spot (operands.Byte v) = v
word_at spot (operands.Low sym offset) = located spot.symbols sym offset % 256
word_at spot (operands.High sym offset) = located spot.symbols sym offset / 256
word_at spot (operands.Zero i) = i
word_at spot (operands.At sym offset) = located spot.symbols sym offset
word_at spot (operands.To l) = label_at spot l

-- a branch leads to an address, or the opposite branch goes round a jump there
pub data IsBranch (m : Memory) (op : Op) (at next to : ℕ) : Type 0 where
  short : m at ≡ opcode_of op Relative → branched (at + 2) (m (at + 1)) ≡ to → next ≡ at + 2 → IsBranch m op at next to
  long : Stands m at (instruction (opposite_of op) Relative 3 ++ instruction ops.Jmp Absolute to) → next ≡ at + 5 → IsBranch m op at next to

abbrev pub IsInstruction : Memory → Spot → ℕ → ℕ → Op → Mode → Operand → Type 0
IsInstruction m spot at next op Relative operand = IsBranch m op at next (label_at spot (target_of operand))
IsInstruction m spot at next op mode operand = Stands m at (instruction op mode (word_at spot operand)) × (next ≡ at + size_of mode)

-- a line stands from an address up to the next one
abbrev pub IsCoded : Memory → Spot → ℕ → ℕ → Line → Type 0
IsCoded m spot at next (Label l) = (at ≡ label_at spot l) × (next ≡ at)
IsCoded m spot at next (Do op mode operand) = IsInstruction m spot at next op mode operand
IsCoded m spot at next (Call callee) = Stands m at (instruction ops.Jsr Absolute (callee_address spot callee)) × (next ≡ at + 3)

abbrev pub AreCoded : Memory → Spot → ℕ → List Line → ℕ → Type 0
AreCoded m spot at [] end = at ≡ end
AreCoded m spot at (line ∷ lines) end = (next : ℕ) × IsCoded m spot at next line × AreCoded m spot next lines end

abbrev pub spot_for : List Line → ℕ → List ℕ → List ℕ → Spot
spot_for lines base symbols routines = record { body = body_of lines; base = base; symbols = symbols; routines = routines }

abbrev pub bytes_at : Spot → List Line → List ℕ
bytes_at spot lines = lines_bytes spot (record { far = 0; near = 0 }) lines

-- The bytes of a segment's lines stand as machine code wherever they are put below $FFFF.
abbrev pub LinesAreCoded : Type 0
LinesAreCoded = (lines : List Line) (base : ℕ) (symbols routines : List ℕ) (m : Memory) → IsSegment lines → base + (body_of lines).size ≤ 65535 → Stands m base (bytes_at (spot_for lines base symbols routines) lines) → AreCoded m (spot_for lines base symbols routines) base lines (base + (body_of lines).size)
